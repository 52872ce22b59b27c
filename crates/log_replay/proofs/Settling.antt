-- What the verifier leaves in a room of the replay's own is what the plain verifier writes, and is told as a replay.
-- Assumes nothing.
use Rattle.std.specs.Prelude.{Result}
use mathlib.Core.Path.{◌≡◌, refl, sym, ◌∙◌, ap, ap₂}
use mathlib.Core.Bool.{Bool, true, false, cond}
use mathlib.Core.List.{List, [], ◌++◌, append_assoc}
use Prim.Native.Nat.{ℕ, ◌*◌, ◌≤◌, ◌<◌}
use native.Mathlib.Omega.{arith}
use borrow.Author.Tests.{le-ltb, ltb-true, ltb-false}
use lib.Dec.{eqb, ltb}
use lib.ListN.{length, length-append, length-replicate, take, drop, replicate, take-append-drop}
use lib.Seq.{length-take-le, take-append_seam, take_at, drop-append-le}
use Rattle.field.specs.Ext as E
use Rattle.field.specs.Extension.{Extension}
use Rattle.gkr.specs.Tests.{either}
use Rattle.gkr.specs.Gkr as Gkr
use Rattle.gkr.specs.Transcripts.{Source, empty}
use Rattle.transcript.specs.Log.{Drawing}
use Rattle.transcript.specs.Bound.{bound}
use Rattle.transcript.specs.Used.{unused}
use Rattle.refusal.specs.Limits.{max_rounds}
use Rattle.refusal.specs.Tests.{Tested, passed, refused, first_of}
use Rattle.refusal.specs.Fronts.{over}
use Rattle.sizes.specs.Sizes.{log_room}
use Rattle.stored.specs.Parse.{sized, proof_of}
use Rattle.stored.specs.Elements.{decoded}
use Rattle.verifier_round.specs.declared.Claims.{Claims}
use Rattle.refusal.specs.declared.Refusal.{Refusal}
use Rattle.verifier_round.specs.Verdicts.{Model}
use Rattle.verifier.specs.declared.Ending.{Ending}
use Rattle.verifier.specs.Gates.{ending}
use Rattle.verifier.specs.Verified as Verifier
use Rattle.verifier.specs.Verified.{Asked, Lent, asked, lent, source_of, tests, fronts, laid, verified}
use Rattle.log_replay.specs.Replayed.{Kept, Compared, same, differs, outcome, told, challenges_of, call_of, plain, replayed}
use Rattle.log_replay.specs.Inner.{fits, gap, settled}

-- THE WORDS OF A POINT THAT ARE LOOKED AT

-- by cases of their number
by_room : (Q : ℕ → Type 0) (p : ℕ) → (p < 4 * max_rounds → Q p) → (4 * max_rounds ≤ p → Q (4 * max_rounds)) → Q (fits p)
by_room Q p few many = either Q (ltb p (4 * max_rounds)) _ _ (λ h. few (ltb-true p (4 * max_rounds) h)) (λ h. many (ltb-false p (4 * max_rounds) h))

pub fits_most : (p : ℕ) {n : ℕ} → n ≡ fits p → n ≤ 4 * max_rounds
fits_most p e = let l : fits p ≤ 4 * max_rounds = by_room (λ n. n ≤ 4 * max_rounds) p (λ h. omega arith) (λ h. omega arith) in omega (arith, e, l)

pub fits_in : (p : ℕ) {n : ℕ} → n ≡ fits p → n ≤ p
fits_in p e = let l : fits p ≤ p = by_room (λ n. n ≤ p) p (λ h. omega arith) (λ h. omega arith) in omega (arith, e, l)

-- they are enough: more are asked for only for more rounds than are taken, and those are refused before
enough : (a : Asked) (p logs : ℕ) → first_of (tests a (fits p) logs) ≡ first_of (tests a p logs)
unfolding first_of
enough a p logs = by_room (λ n. first_of (tests a n logs) ≡ first_of (tests a p logs)) p (λ h. refl) (λ h. go (ltb max_rounds a.rounds) refl h)
  where
    go : (b : Bool) → ltb max_rounds a.rounds ≡ b → 4 * max_rounds ≤ p → first_of (tests a (4 * max_rounds) logs) ≡ first_of (tests a p logs)
    go true e h = rw e refl
    go false e h =
        let few : a.rounds ≤ max_rounds = ltb-false max_rounds a.rounds e in
        rw (le-ltb (4 * max_rounds) (4 * a.rounds) (omega arith), le-ltb p (4 * a.rounds) (omega arith)) refl

-- WHAT THE VERIFIER LEAVES

-- so many words of the log as are told used up
words_told : (a : Asked) (t : Tested) → length (fronts a t).buffers.log ≡ (fronts a t).used.words
words_told a (refused e) = refl
words_told a passed = go (eqb a.rounds 0) (Verifier.emptied (first_of (Verifier.empty_tests a.proof))) (source_of a)
    (Gkr.verify_gkr Extension (Drawing (source_of a)) a.rounds (decoded (proof_of a.proof)) (bound (sized a.proof) a.rounds empty))
  where
    go : (b : Bool) (v : Result Claims Refusal) (ch : Source E.Ext) (m : Model ch)
        → (let f = cond b (Verifier.outcome v unused [] []) (Verifier.ended ch m) in length f.buffers.log ≡ f.used.words)
    go true v ch m = refl
    go false v ch m = refl

-- what is written over a part of a point that holds it, beside the rest
over_part : (ws point : List ℕ) (n : ℕ) → length ws ≤ n → n ≤ length point → over ws (take n point) ++ drop n point ≡ over ws point
over_part ws point n h l =
    append_assoc ws (drop (length ws) (take n point)) (drop n point)
    ∙ ap (λ r. ws ++ r) (sym (drop-append-le (length ws) (take n point) (drop n point) (omega (arith, h, length-take-le n point l))) ∙ ap (drop (length ws)) (take-append-drop n point))

-- what holds a length holds what is written over it
over_fits : (ws room : List ℕ) → length (over ws room) ≡ length room → length ws ≤ length room
over_fits ws room e = omega (arith, e, length-append ws (drop (length ws) room))

told_as : (c : Compared) (f : Verifier.Outcome) (found point : List ℕ) → found ≡ over f.buffers.point point
    → settled c (ending f.answer f.used) found point ≡ (let t = told f c in outcome t.answer t.used (over t.point point))
told_as same f found point e = ap (outcome f.answer f.used) e
told_as (differs r) f found point e = refl

-- THE REPLAY'S CALL

module _ (k : Kept) (point : List ℕ) where
  abbrev looked : ℕ
  looked = fits (length point)

  abbrev found : Verifier.Outcome
  found = plain k (length point)

  -- the room that it lends
  abbrev pub room : Lent
  room = lent (take looked point) (replicate (log_room true true max_rounds) 0)

  part : length (take looked point) ≡ looked
  part = length-take-le looked point (fits_in (length point) refl)

  left : verified (call_of k) room ≡ laid found room
  unfolding verified
  left =
      ap₂ (λ p l. laid (fronts (call_of k) (first_of (tests (call_of k) p l))) room) part (length-replicate {A = ℕ} (log_room true true max_rounds) 0)
      ∙ ap (λ t. laid (fronts (call_of k) t) room) (enough (call_of k) (length point) (log_room true true max_rounds))

  module _ (r : Ending) {xi own : List ℕ} (e : Verifier.outcome r.verdict r.used xi own ≡ verified (call_of k) room) where
    log_left : own ≡ over found.buffers.log room.log
    log_left = ap (λ o. o.buffers.log) (e ∙ left)

    words : r.used.words ≡ length found.buffers.log
    words = ap (λ o. o.used.words) (e ∙ left) ∙ sym (words_told (call_of k) (first_of (tests (call_of k) (length point) (log_room true true max_rounds))))

    pub words_fit : length own ≡ log_room true true max_rounds → r.used.words ≤ length own
    words_fit h = omega (arith, h, words, ap length log_left, length-append found.buffers.log (drop (length found.buffers.log) room.log))

    pub settles : length xi ≡ looked → settled (gap r.verdict k.log (take r.used.words own)) r (xi ++ drop looked point) point ≡ replayed k point
    unfolding replayed
    settles h =
        let o = e ∙ left in
        let log : take r.used.words own ≡ found.buffers.log = ap₂ take words log_left ∙ take-append_seam found.buffers.log (drop (length found.buffers.log) room.log) in
        let xs : xi ≡ over found.buffers.point (take looked point) = ap (λ o. o.buffers.point) o in
        let fit : length found.buffers.point ≤ looked = omega (arith, part, over_fits found.buffers.point (take looked point) (sym (ap length xs) ∙ h ∙ sym part)) in
        (λ i. settled (gap (o i).answer k.log (log i)) (ending (o i).answer (o i).used) (xi ++ drop looked point) point)
        ∙ told_as (gap found.answer k.log found.buffers.log) found _ point
        (ap (λ x. x ++ drop looked point) xs ∙ over_part found.buffers.point point looked fit (fits_in (length point) refl))

-- over a copy of the point's first words, in a longer list
module _ (k : Kept) (point : List ℕ) (r : Ending) {n : ℕ} {given copied xi own : List ℕ} (q : n ≡ fits (length point)) (t : given ≡ challenges_of k.log) (c : copied ≡ take n point ++ drop n (replicate (4 * max_rounds) 0))
    (e : Verifier.outcome r.verdict r.used xi own ≡ verified (asked k.proof k.rounds k.modes given) (lent (take n copied) (replicate (log_room true true max_rounds) 0))) where
  first : length (take n point) ≡ n
  first = length-take-le n point (fits_in (length point) q)

  lends : take n copied ≡ take (fits (length point)) point
  lends = ap (take n) c ∙ take_at (take n point) (drop n (replicate (4 * max_rounds) 0)) n first ∙ ap (λ m. take m point) q

  called : Verifier.outcome r.verdict r.used xi own ≡ verified (call_of k) (room k point)
  called = e ∙ ap₂ (λ l p. verified (asked k.proof k.rounds k.modes l) (lent p (replicate (log_room true true max_rounds) 0))) t lends

  pub own_holds : length own ≡ log_room true true max_rounds → r.used.words ≤ length own
  own_holds = words_fit k point r called

  pub replayed_so : length xi ≡ length (take n copied) → (rest : List ℕ) → settled (gap r.verdict k.log (take r.used.words own)) r (take n (xi ++ rest) ++ drop n point) point ≡ replayed k point
  replayed_so h rest =
      let l : length xi ≡ n = h ∙ ap length lends ∙ ap (λ m. length (take m point)) (sym q) ∙ first in
      ap (λ x. settled (gap r.verdict k.log (take r.used.words own)) r x point) (ap₂ ◌++◌ (take_at xi rest n l) (ap (λ m. drop m point) q))
      ∙ settles k point r called (l ∙ q)
