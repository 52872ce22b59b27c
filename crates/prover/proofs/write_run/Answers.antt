use Rattle.std.proofs.Common.{◌≡◌, arith, ◌+◌, cond, sym, ◌∙◌}
use Rattle.std.proofs.lemmas.Grind.{common_steps}
use Rattle.transcript.specs.Log.{state}
use Rattle.prover.proofs.Opening.{log_sum}
use Rattle.prover.proofs.Writing.{opens, quarter, written}
use Rattle.prover.proofs.write_run.Goals as goal

pub put_proof-requires : goal.put_proof-requires
put_proof-requires c =
    let p = c.requires.room in
    let s = opens c.args.modes.assert_zero c.args.modes.sized c.args.n _ c.observe_size.ensures.steps c.begin.ensures.steps in
    let k : c.begin.new.transcript.put ≡ cond c.args.modes.sized 4 0 + cond c.args.modes.assert_zero 0 4 = omega (arith, s.put, c.new-transcript.ensures.begun.0) in
    let i = quarter c.args.modes.assert_zero c.args.modes.sized c.begin.new.transcript.put k in
    (p.some, omega (arith, p.few), p.proof, omega (arith, p.log, k, i, log_sum c.args.n))

pub returns : goal.returns
returns c =
    let p = c.requires.room in
    let N = c.new-transcript.ensures in
    let s = opens c.args.modes.assert_zero c.args.modes.sized c.args.n _ c.observe_size.ensures.steps c.begin.ensures.steps in
    let r = c.run_rounds.ensures in
    let same = sym (r.same ∙ c.begin.ensures.same ∙ c.observe_size.ensures.same ∙ N.same) in
    λ f m e L R.
    written f c.args.modes.assert_zero c.args.modes.sized m c.args.n c.args.proof.now c.put_proof.new.out c.args.xi.now c.run_rounds.new.xi c.args.work.now c.run_rounds.new.work c.clear.new.words
    (state c.new-transcript.result) (state c.begin.new.transcript) (state c.run_rounds.new.transcript) c.args.root
    (grind (arith, common_steps, same))
    (record { buffer = N.buffers.0; challenges = N.buffers.1; drawn = N.buffers.2; put = N.begun.0; used = N.begun.1 }) e R s (grind (arith, p.log, s.put, N.begun.0, r.length, same))
    (r.run f m e L R.q.value) (grind (arith, p.log, s.put, N.begun.0, r.steps.put, same)) r.clean p.point (omega (arith, p.point)) p.proof (omega (arith, c.put_proof.auto)) c.put_proof.ensures.1 c.clear.ensures (omega arith) c.used_up-spent.ensures
