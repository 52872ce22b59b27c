use mathlib.Core.Path.{ap}
use mathlib.Core.Bool.{not}
use mathlib.Core.Path.{refl, sym}
use lib.Seq.{length-take-le}
use Rattle.verifier.specs.Gates.{unrooted}
use Rattle.verifier.specs.Verified.{asked}
use Rattle.verifier.proofs.GateLaws.{way_10, way_11, way_4, way_12, way_5, way_5_log, way_13, way_6, shaped_by}
use Rattle.std.proofs.lemmas.Result.{err_from_is_err_and}
use Rattle.verifier.proofs.check.Goals.{then-points-rounds-via-then-points-rounds, then-points-rounds-via-else-points-rounds+then-logs-log_words}
use Rattle.verifier.proofs.check.Goals as goal

pub returns-then-lacks_rounds : goal.returns-then-lacks_rounds
returns-then-lacks_rounds c = let a = c.args in
    way_10 (asked a.proof.now a.rounds (unrooted a.modes) a.challenges.now) a.points a.logs _ c.lacks_rounds.ensures c.if-lacks_rounds.true

pub returns-then-rounds-gt-MAX_ROUNDS : goal.returns-then-rounds-gt-MAX_ROUNDS
returns-then-rounds-gt-MAX_ROUNDS c = let a = c.args in
    way_11 (asked a.proof.now a.rounds (unrooted a.modes) a.challenges.now) a.points a.logs _ c.lacks_rounds.ensures c.if-lacks_rounds.false c.if-rounds-gt-MAX_ROUNDS.true

pub returns-then-challenges-needs : goal.returns-then-challenges-needs
returns-then-challenges-needs c = let a = c.args in
    way_4 (asked a.proof.now a.rounds (unrooted a.modes) a.challenges.now) a.points a.logs _ c.lacks_rounds.ensures c.if-lacks_rounds.false c.if-rounds-gt-MAX_ROUNDS.false _ c.needed_words-needs.ensures c.if-challenges-needs.true

pub slice_bounds-check_words-end : goal.slice_bounds-check_words-end
slice_bounds-check_words-end c = sym (length-take-le _ c.args.challenges.now c.if-challenges-needs.false)

pub check_words-requires : goal.check_words-requires
check_words-requires c = shaped_by _ _ _ c.read_shape.ensures c.in_ok-outline.was

pub returns-then-not-is_known : goal.returns-then-not-is_known
returns-then-not-is_known c = let a = c.args in
    way_12 (asked a.proof.now a.rounds (unrooted a.modes) a.challenges.now) a.points a.logs _ c.lacks_rounds.ensures c.if-lacks_rounds.false c.if-rounds-gt-MAX_ROUNDS.false _ c.needed_words-needs.ensures c.if-challenges-needs.false _ c.is_known.ensures (ap not c.if-not-is_known.true)

pub returns-then-points-rounds : goal.returns-then-points-rounds
returns-then-points-rounds c = let a = c.args in
    elim c.then-points-rounds.branch [
      | then-points-rounds-via-then-points-rounds w ↦ way_5 (asked a.proof.now a.rounds (unrooted a.modes) a.challenges.now) a.points a.logs _ c.lacks_rounds.ensures c.if-lacks_rounds.false c.if-rounds-gt-MAX_ROUNDS.false _ c.needed_words-needs.ensures c.if-challenges-needs.false _ c.is_known.ensures (ap not c.if-not-is_known.false) w.if-points-rounds.true
      | then-points-rounds-via-else-points-rounds+then-logs-log_words w ↦ way_5_log (asked a.proof.now a.rounds (unrooted a.modes) a.challenges.now) a.points a.logs _ c.lacks_rounds.ensures c.if-lacks_rounds.false c.if-rounds-gt-MAX_ROUNDS.false _ c.needed_words-needs.ensures c.if-challenges-needs.false _ c.is_known.ensures (ap not c.if-not-is_known.false) w.if-points-rounds.false _ w.is_sized.ensures _ w.log_words.ensures w.if-logs-log_words.true
    ]

pub returns-in_err-outline : goal.returns-in_err-outline
returns-in_err-outline c = let a = c.args in
    let p = err_from_is_err_and c.from_residual.result c.from_residual.ensures.1 in
    rw (p.1, p.2) (way_13 (asked a.proof.now a.rounds (unrooted a.modes) a.challenges.now) a.points a.logs _ c.lacks_rounds.ensures c.if-lacks_rounds.false c.if-rounds-gt-MAX_ROUNDS.false _ c.needed_words-needs.ensures c.if-challenges-needs.false _ c.is_known.ensures (ap not c.if-not-is_known.false) c.if-points-rounds.false _ c.is_sized.ensures _ c.log_words.ensures c.if-logs-log_words.false _ _ c.read_shape.ensures c.in_err-outline.was)

pub returns : goal.returns
returns c = let a = c.args in
    way_6 (asked a.proof.now a.rounds (unrooted a.modes) a.challenges.now) a.points a.logs _ c.lacks_rounds.ensures c.if-lacks_rounds.false c.if-rounds-gt-MAX_ROUNDS.false _ c.needed_words-needs.ensures c.if-challenges-needs.false _ c.is_known.ensures (ap not c.if-not-is_known.false) c.if-points-rounds.false _ c.is_sized.ensures _ c.log_words.ensures c.if-logs-log_words.false _ (shaped_by _ _ _ c.read_shape.ensures c.in_ok-outline.was) refl _ c.check_words.ensures
