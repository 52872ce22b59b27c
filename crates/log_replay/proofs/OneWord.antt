-- No word of a log that holds can be exchanged for another; but for a sampled one, where challenges are not drawn, for another sampled one.
-- Assumes nothing.
use mathlib.Core.Path.{◌≡◌, refl, sym, ◌∙◌, ap, subst}
use mathlib.Core.Bool.{Bool, true, false, cond, ◌||◌}
use mathlib.Core.List.{List}
use Prim.Native.Nat.{ℕ, ◌*◌, ◌≤◌, ◌<◌}
use native.Mathlib.Nat.{not-suc-le-zero}
use lib.Dec.{eqb, ltb}
use lib.ListN.{length, get_or, set}
use lib.Seq.{get_or-set_same}
use borrow.Author.Tests.{ltb-false}
use Rattle.field.specs.Base.{P}
use Rattle.field.specs.Ext as E
use Rattle.field.specs.ExtRing.{same_true}
use Rattle.field.specs.Extension.{Extension}
use Rattle.field.specs.CellLaws.{clean_words}
use Rattle.gkr.specs.Run.{Proof}
use Rattle.gkr.specs.Transcripts.{Words}
use Rattle.gkr.specs.Gkr as Gkr
use Rattle.gkr.proofs.Forks.{decided}
use Rattle.gkr.proofs.Replays.{ext_layout}
use Rattle.gkr.proofs.OneWord as Two
use Rattle.transcript.specs.Source.{source}
use Rattle.transcript.specs.Log.{Drawing}
use Rattle.refusal.specs.Limits.{max_rounds}
use Rattle.refusal.specs.Tests.{passed, first_of}
use Rattle.refusal.specs.TestLaws.{passed_all}
use Rattle.sizes.specs.Sizes.{log_room}
use Rattle.stored.specs.Parse.{sized}
use Rattle.verifier_round.specs.Verdicts.{Model, logged_by}
use Rattle.verifier.specs.Verified.{Asked, Outcome, needed, source_of, tests, ended, fronts}
use Rattle.log_replay.specs.Replayed.{Kept, kept, call_of, plain, of_run, compared, same, told, replayed}
use Rattle.log_replay.specs.Companions.{Held, Sampled, OneWord}
use Rattle.log_replay.proofs.Comparing.{no_gap}
use Rattle.log_replay.proofs.Runs.{Ran, ran_left, both_ran}
use Rattle.log_replay.proofs.Calls.{let_through, ran_passed}
use Rattle.log_replay.proofs.Replays.{start, π, run, nothing}

-- TWO RUNS THAT LEAVE LOGS WITH ONE WORD EXCHANGED

two_runs : (drawn : Bool) (c c' : List ℕ) (n : ℕ) (π : Proof E.Ext) (t : Words) (L : List ℕ) (i w : ℕ)
    → let ch = source drawn c in
    let ch' = source drawn c' in
    (Gkr.log_after Extension (Drawing ch) t (Gkr.verify_gkr Extension (Drawing ch) n π t)).log ≡ L → (Gkr.log_after Extension (Drawing ch') t (Gkr.verify_gkr Extension (Drawing ch') n π t)).log ≡ set L i w
    → i < length L → ¬ (w ≡ get_or L i 0) → (drawn ≡ false) × Sampled w × Sampled (get_or L i 0)
two_runs true c c' n π t L i w left left' inside other = absurd (other (sym (get_or-set_same L i w 0 inside) ∙ ap (λ l. get_or l i 0) (sym left' ∙ left)))
two_runs false c c' n π t L i w left left' inside other =
    let s = Two.one_word Extension ext_layout (source false c) (source false c') (decided Extension same_true) P (λ x k. (clean_words x).below k) n π t L i w left left' inside other in
    (refl, record { marked = s.0; canonical = s.1 }, record { marked = s.2; canonical = s.3 })

-- A REPLAY THAT HOLDS

module _ (k : Kept) (point : List ℕ) where
  -- the verdict is the plain verifier's, of a run
  plain_ran : of_run (replayed k point).answer ≡ true → of_run (plain k (length point)).answer ≡ true
  unfolding replayed
  plain_ran h = go (of_run (plain k (length point)).answer) refl
    where
      go : (b : Bool) → of_run (plain k (length point)).answer ≡ b → of_run (plain k (length point)).answer ≡ true
      go true q = q
      go false q = sym (ap (λ t. of_run (told (plain k (length point)) (cond t (compared k.log (plain k (length point)).buffers.log 0) same)).answer) q) ∙ h

  -- and its log is the log given
  held_log : Held k point → of_run (plain k (length point)).answer ≡ true → k.log ≡ (plain k (length point)).buffers.log
  unfolding replayed
  held_log held ran =
      let o = plain k (length point) in
      no_gap k.log o.buffers.log 0 (λ e d. held e (ap (λ t. (told o (cond t (compared k.log o.buffers.log 0) same)).answer) ran ∙ ap (λ c. (told o c).answer) d))

-- A CALL THAT IS LET THROUGH

or_left : (x y : Bool) → (x || y) ≡ false → x ≡ false
or_left true y h = h
or_left false y h = refl

wide : (a : Asked) (points logs : ℕ) → first_of (tests a points logs) ≡ passed → 4 * a.rounds ≤ points
wide a points logs p = ltb-false points (4 * a.rounds) (or_left (ltb points (4 * a.rounds)) (ltb logs (log_room true (sized a.proof) a.rounds)) (passed_all (tests a points logs) p).1.1.1.1.0)

module _ (a : Asked) where
  abbrev ran_by : Model (source_of a)
  ran_by = run a (source_of a)

  -- one that leaves a word has rounds
  some_rounds : (L : List ℕ) (i : ℕ) → i < length L → L ≡ (fronts a passed).buffers.log → eqb a.rounds 0 ≡ false
  some_rounds L i inside e = go (eqb a.rounds 0) refl
    where
      go : (b : Bool) → eqb a.rounds 0 ≡ b → eqb a.rounds 0 ≡ false
      go false q = q
      go true q = absurd (not-suc-le-zero (subst (λ l. i < length l) (e ∙ ap (λ b. (cond b (nothing a) (ended (source_of a) ran_by)).buffers.log) q) inside))

  ended_at : eqb a.rounds 0 ≡ false → (points logs : ℕ) → first_of (tests a points logs) ≡ passed → fronts a (first_of (tests a points logs)) ≡ ended (source_of a) ran_by
  ended_at q points logs p = ap (fronts a) p ∙ ap (λ b. cond b (nothing a) (ended (source_of a) ran_by)) q

  left_at : (L : List ℕ) → Ran (source_of a) ran_by → L ≡ logged_by (source_of a) ran_by → (Gkr.log_after Extension (Drawing (source_of a)) (start a) ran_by).log ≡ L
  left_at L ran e = sym (e ∙ ap (λ (u : Words). u.log) (ran_left (source_of a) (start a) ran_by ran))

still_ran : (x y : Outcome) → x ≡ y → of_run x.answer ≡ true → of_run y.answer ≡ true
still_ran x y e h = sym (ap (λ o. of_run o.answer) e) ∙ h

pub one_word : OneWord
one_word k point i w held h inside other held' =
    let L = k.log in
    let k' = kept k.proof k.rounds k.modes (set L i w) in
    let a = call_of k in
    let a' = call_of k' in
    let n = length point in
    let logs = log_room true true max_rounds in
    let ran₀ = plain_ran k point h in
    let p = ran_passed a n logs ran₀ in
    let given = held_log k point held ran₀ in
    let q = some_rounds a L i inside (given ∙ ap (λ t. (fronts a t).buffers.log) p) in
    let at = ended_at a q n logs p in
    let ran : Ran (source_of a) (ran_by a) = still_ran (plain k n) (ended (source_of a) (ran_by a)) at ran₀ in
    let at' = ended_at a' q n logs (let_through a n logs (set L i w) n p (wide a n logs p)) in
    let ran' = both_ran (source_of a) (source_of a') a.rounds (π a) (start a) ran in
    let given' = held_log k' point held' (still_ran (ended (source_of a') (ran_by a')) (plain k' n) (sym at') ran') in
    two_runs k.modes.drawn (needed a) (needed a') a.rounds (π a) (start a) L i w
    (left_at a L ran (given ∙ ap (λ o. o.buffers.log) at)) (left_at a' (set L i w) ran' (given' ∙ ap (λ o. o.buffers.log) at')) inside other
