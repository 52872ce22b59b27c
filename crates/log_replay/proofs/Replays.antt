-- The verifier's own log replays: the verdict, the counts and the point are those of the call that left it.
-- Assumes nothing.
use mathlib.Core.Path.{◌≡◌, refl, sym, ◌∙◌, ap, subst}
use mathlib.Core.Bool.{Bool, true, false, cond}
use mathlib.Core.List.{List, []}
use Prim.Native.Nat.{ℕ, ◌*◌, ◌≤◌}
use lib.Dec.{eqb}
use lib.ListN.{length}
use Rattle.field.specs.Ext as E
use Rattle.field.specs.Extension.{Extension}
use Rattle.gkr.specs.Run.{Proof}
use Rattle.gkr.specs.Transcripts.{Words, Source, empty}
use Rattle.gkr.specs.Gkr as Gkr
use Rattle.transcript.specs.Log.{Drawing}
use Rattle.transcript.specs.Bound.{bound}
use Rattle.transcript.specs.Used.{unused}
use Rattle.refusal.specs.Limits.{max_rounds}
use Rattle.refusal.specs.Tests.{passed, first_of}
use Rattle.refusal.specs.Fronts.{over}
use Rattle.stored.specs.Parse.{sized, proof_of}
use Rattle.stored.specs.Elements.{decoded}
use Rattle.verifier_round.specs.Verdicts.{Model, logged_by}
use Rattle.verifier.specs.Verified as Verifier
use Rattle.verifier.specs.Verified.{Asked, asked, needed, source_of, tests, empty_tests, emptied, ended, fronts}
use Rattle.log_replay.specs.Replayed.{Kept, kept, challenges_of, plain, of_run, compared, same, told, Outcome, outcome, replayed}
use Rattle.log_replay.specs.Companions.{Replays, written}
use Rattle.log_replay.proofs.Comparing.{same_log}
use Rattle.log_replay.proofs.Runs.{Ran, ran_left, ended_same}
use Rattle.log_replay.proofs.Calls.{few_rounds, let_through, ran_passed}
use Rattle.log_replay.proofs.Sources.{bound_fresh, same_run}

module _ (a : Asked) where
  abbrev pub start : Words
  start = bound (sized a.proof) a.rounds empty

  abbrev pub π : Proof E.Ext
  π = decoded (proof_of a.proof)

  abbrev pub run : (ch : Source E.Ext) → Model ch
  run ch = Gkr.verify_gkr Extension (Drawing ch) a.rounds π start

  -- the same call from the challenges of a log, and their source
  abbrev again : List ℕ → Asked
  again log = asked a.proof a.rounds a.modes (challenges_of log)

  abbrev from : List ℕ → Source E.Ext
  from log = source_of (again log)

  again_ended : a.rounds ≤ max_rounds → Ran (source_of a) (run (source_of a)) → let l = logged_by (source_of a) (run (source_of a)) in ended (from l) (run (from l)) ≡ ended (source_of a) (run (source_of a))
  again_ended few ran =
      let ch = source_of a in
      let L = (Gkr.log_after Extension (Drawing ch) start (run ch)).log in
      ap (λ (l : List ℕ). ended (from l) (run (from l))) (ap (λ (u : Words). u.log) (ran_left ch start (run ch) ran))
      ∙ sym (ended_same ch (from L) (run ch) (run (from L)) (same_run a.modes.drawn (needed a) a.rounds π start (bound_fresh (sized a.proof) a.rounds) few))

  -- no rounds
  abbrev pub nothing : Verifier.Outcome
  nothing = Verifier.outcome (emptied (first_of (empty_tests a.proof))) unused [] []

  again_fronts : a.rounds ≤ max_rounds → let o = fronts a passed in of_run o.answer ≡ true → fronts (again o.buffers.log) passed ≡ o
  again_fronts few = go (eqb a.rounds 0)
    where
      go : (b : Bool) → let o = cond b nothing (ended (source_of a) (run (source_of a))) in of_run o.answer ≡ true → let l = o.buffers.log in cond b nothing (ended (from l) (run (from l))) ≡ o
      go true h = refl
      go false h = again_ended few h

  -- so the replay's call is the call that left the log
  plain_same : (points logs room : ℕ) → let o = fronts a (first_of (tests a points logs)) in of_run o.answer ≡ true → 4 * a.rounds ≤ room → plain (kept a.proof a.rounds a.modes o.buffers.log) room ≡ o
  plain_same points logs room h wide =
      let p = ran_passed a points logs h in
      let l = (fronts a passed).buffers.log in
      subst (λ t. of_run (fronts a t).answer ≡ true → let o = fronts a t in plain (kept a.proof a.rounds a.modes o.buffers.log) room ≡ o) (sym p)
      (λ r. ap (fronts (again l)) (let_through a points logs l room p wide) ∙ again_fronts (few_rounds a points logs p) r)
      h

pub own_log : Replays
unfolding replayed
own_log a b point h wide =
    let o = written a b in
    let l = o.buffers.log in
    ap (λ (x : Verifier.Outcome). let f = told x (cond (of_run x.answer) (compared l x.buffers.log 0) same) in outcome f.answer f.used (over f.point point))
    (plain_same a (length b.point) (length b.log) (length point) h wide)
    ∙ ap (λ t. let f = told o (cond t (compared l l 0) same) in outcome f.answer f.used (over f.point point)) h
    ∙ ap (λ c. let f = told o c in outcome f.answer f.used (over f.point point)) (same_log l 0)

-- no second outcome fits
pub only_one : (k : Kept) (point : List ℕ) (x y : Outcome) → x ≡ replayed k point → y ≡ replayed k point → x ≡ y
only_one k point x y e f = e ∙ sym f
