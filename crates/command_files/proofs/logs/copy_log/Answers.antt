use Rattle.std.proofs.Common.{◌≡◌, ◌+◌, ◌*◌, ◌∙◌, ap, arith, drop}
use Rattle.std.proofs.Math.ListN.{set}
use Rattle.wire.specs.Bytes.{word}
use Rattle.wire.proofs.Runs.{copy_none, copy_more}
use Rattle.command_files.proofs.logs.copy_log.Goals as goal

pub loop-i-init : goal.loop-i-init
loop-i-init c = copy_none c.args.bytes.now c.args.words.now 0

pub loop-i-preserved : goal.loop-i-preserved
loop-i-preserved c =
    let bs = c.args.bytes.now in
    let i = c.loop-i.i in
    let e : 4 * i ≡ 0 + 4 * i = omega arith in
    ap (λ l. set l i c.word_at.result) c.loop-i.invariant ∙ copy_more bs c.args.words.now 0 i c.word_at.result (omega arith) (c.word_at.ensures ∙ ap (λ k. word (drop k bs)) e)
