use Rattle.sheet_text.proofs.Listing.{parts_of, parts_read, line_at, all_read, lines_end, line_on, line_ends, went_on, failed}
use Rattle.sheet_text.proofs.Placing.{put_fits}
use Rattle.std.proofs.lemmas.Iterator.Splits.{YieldsList-from_slice_split}
use Rattle.std.specs.Iterator.Adapters.{enumerate_source}
use Rattle.std.proofs.lemmas.List.{length_push}
use Rattle.std.proofs.lemmas.Result.{err_from_is_err_and}
use Rattle.std.proofs.Common.{◌≡◌, ◌+◌, ◌<◌, length, get_or, rules, tests, arith}
use Rattle.sheet_text.proofs.list.read_list.Goals as goal
use Rattle.sheet_text.proofs.list.read_list.Goals.{In-Some}

-- the line is the next part, under its number
this_line : (c : In-Some) → (c.in-Some.i ≡ length c.loop-i.yielded) × (length c.loop-i.yielded < length (parts_of c.args.text.now)) × (c.in-Some.line.now ≡ get_or (parts_of c.args.text.now) (length c.loop-i.yielded) c.in-Some.line.now)
this_line c =
    let from : enumerate_source c.into_iter-i-iterator.result ≡ c.split.result = cc in
    line_at c.into_iter-i-iterator.result c.loop-i.yielded _ c.loop-i.yielded_by _ _ c.next.ensures.steps from (cc) (YieldsList-from_slice_split _ _ c.args.text.now c.split.ensures.rest c.split.ensures.done c.split.ensures.closure (λ x r q k. search (rules, tests))) _ _ c.in-Some.is

pub loop-i-init : goal.loop-i-init
loop-i-init c = (omega arith, parts_read _ _ _)

pub returns-in_err-put-clause-words_after : goal.returns-in_err-put-clause-words_after
returns-in_err-put-clause-words_after c =
    let t = this_line (goal.at-returns-in_err-put-clause-words_after c).In-Some in
    let p = err_from_is_err_and c.from_residual.result c.from_residual.ensures.1 in
    let e = failed c.put_line.result c.numbered.result c.in-Some.i (length c.loop-i.yielded) t.0 c.numbered.ensures _ c.in_err-put.was in
    rw (p.1, p.2, e.2) (line_ends _ _ _ c.loop-i.words _ _ c.loop-i.invariant.1 _ t.1 t.2 _ _ c.put_line.ensures e.0 e.1)

pub loop-i-preserved : goal.loop-i-preserved
loop-i-preserved c =
    let t = this_line (goal.at-loop-i-preserved c).In-Some in
    let k = went_on c.put_line.result c.numbered.result (c.in-Some.i + 1) c.numbered.ensures _ c.in_ok-put.was in
    (put_fits _ _ _ c.loop-i.words _ _ _ c.put_line.ensures k (omega arith), rw length_push (line_on _ _ _ c.loop-i.words _ _ c.loop-i.invariant.1 _ t.1 t.2 _ _ c.put_line.ensures _ k))

pub returns-clause-words_after : goal.returns-clause-words_after
returns-clause-words_after c =
    let from : enumerate_source c.into_iter-i-iterator.result ≡ c.split.result = cc in
    let e = all_read c.into_iter-i-iterator.result c.loop-i.yielded _ c.loop-i.yielded_by _ _ c.next.ensures.steps from (cc) (YieldsList-from_slice_split _ _ c.args.text.now c.split.ensures.rest c.split.ensures.done c.split.ensures.closure (λ x r q k. search (rules, tests))) c.in-None.is in
    lines_end _ _ _ _ _ _ c.loop-i.invariant.1 e
