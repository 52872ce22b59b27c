-- Over challenges from any source: how many a run samples, and how many words it leaves in the log. Over supplied ones: the k-th sample is the k-th challenge.
-- Assumes nothing.
use Rattle.std.specs.Prelude.{◌≡◌, Bool, true, false, cond, get_or, leb}
use Rattle.std.proofs.Math.Path.{refl, ap, subst}
use Rattle.std.proofs.Common.{◌∙◌, length-append, le-leb}
use mathlib.Core.List.{List, [], ◌∷◌, ◌++◌, map, append-nil}
use Prim.Native.Nat.{ℕ, zero, suc, ◌≤◌, ◌+◌, ◌*◌, ◌^◌}
use Rattle.std.proofs.Math.Nat.{zero-add}
use native.Mathlib.Omega.{arith}
use Rattle.std.proofs.Math.ListN.{length}
use Rattle.std.proofs.lemmas.List.{length-map}
use Rattle.ring.specs.Field.{Field}
use Rattle.gkr.specs.Run.{Frac, Proof, Transcript}
use Rattle.gkr.specs.Sizes.{challenges, log_words}
use Rattle.gkr.specs.Gkr
use Rattle.gkr.specs.Gkr.{done, accepted}
use Rattle.gkr.specs.Transcripts.{Event, observed, sampled, count, supplied, mark, Words, empty, Source, drawing}
use Rattle.gkr.proofs.Count
use Rattle.gkr.proofs.VerifierCount
use Rattle.gkr.proofs.Keeps
use Rattle.gkr.specs.TranscriptLaws.{sampled_words}

pub sampled_append : (a b : List ℕ) → sampled_words (a ++ b) ≡ sampled_words a ++ sampled_words b
unfolding sampled_words
sampled_append [] b = refl
sampled_append (w ∷ a) b = ap (λ l. cond (leb (2 ^ 31) w) (w ∷ l) l) (sampled_append a b) ∙ go (leb (2 ^ 31) w)
  where
    go : (t : Bool) → cond t (w ∷ (sampled_words a ++ sampled_words b)) (sampled_words a ++ sampled_words b) ≡ cond t (w ∷ sampled_words a) (sampled_words a) ++ sampled_words b
    go true = refl
    go false = refl

pub sampled_mark : (ws : List ℕ) → sampled_words (map mark ws) ≡ map mark ws
unfolding sampled_words
sampled_mark [] = refl
sampled_mark (w ∷ ws) = ap (λ t. cond t (mark w ∷ sampled_words (map mark ws)) (sampled_words (map mark ws))) (le-leb (2 ^ 31) (mark w) (omega arith)) ∙ ap (λ l. mark w ∷ l) (sampled_mark ws)

module _ {A : Type 0} (words : A → List ℕ) (source : Source A) where
  -- a challenge adds its words, marked
  pub drawn_adds : (t : Words) → sampled_words ((drawing words source).drawn t).log ≡ sampled_words t.log ++ map mark (words (source t))
  drawn_adds t = sampled_append t.log (map mark (words (source t))) ∙ ap (λ l. sampled_words t.log ++ l) (sampled_mark (words (source t)))

  -- an observation adds none, where no word of an element has its top bit set
  pub observe_adds : (plain : (x : A) → sampled_words (words x) ≡ []) (x : A) (t : Words) → sampled_words ((drawing words source).observe x t).log ≡ sampled_words t.log
  observe_adds plain x t = sampled_append t.log (words x) ∙ ap (λ l. sampled_words t.log ++ l) (plain x) ∙ append-nil (sampled_words t.log)

-- the sampled words of a log are four for each challenge
abbrev pub Marked : Words → Type 0
Marked t = length (sampled_words t.log) ≡ 4 * t.used

module _ (F : Field) (words : F.ring.carrier → List ℕ) (source : Source F.ring.carrier) where
  abbrev R : Type 0
  R = F.ring.carrier

  abbrev S : Transcript R
  S = drawing words source

  -- HOW MANY CHALLENGES ARE SAMPLED

  observe_used : (x : R) (t : Words) → (S.observe x t).used ≡ t.used + 0
  observe_used x t = omega arith

  drawn_used : (t : Words) → (S.drawn t).used ≡ t.used + 1
  drawn_used t = omega arith

  pub done_draws : (asserted : Bool) (m : ℕ) (f : ℕ → Frac R) (t : Words) (P : Gkr.Proved F S)
      → Gkr.fractional_sumcheck F S asserted m f t ≡ done P → P.log.used ≡ t.used + challenges (suc m)
  done_draws asserted m f t P e =
      Count.answer_size F S (λ u. u.used) 0 1 observe_used drawn_used asserted m f t P e
      ∙ ap (λ k. t.used + k + cond asserted 0 0) (Count.draws m)
      ∙ go asserted
    where
      go : (b : Bool) → t.used + challenges (suc m) + cond b 0 0 ≡ t.used + challenges (suc m)
      go true = omega arith
      go false = omega arith

  pub accepted_draws : (m : ℕ) (π : Proof R) (t : Words) (v : Frac R) (xi : List R) (u : Words)
      → Gkr.verify_gkr F S (suc m) π t ≡ accepted v xi u → u.used ≡ t.used + challenges (suc m)
  accepted_draws m π t v xi u e =
      (VerifierCount.accepted_size F S (λ u. u.used) 0 1 observe_used drawn_used m π t v xi u e).0 ∙ ap (λ k. t.used + k) (Count.draws m)

  -- accepted or not: at most those
  pub left_draws : (n : ℕ) (π : Proof R) (t : Words) → (Gkr.log_after F S t (Gkr.verify_gkr F S n π t)).used ≤ t.used + challenges n
  unfolding Gkr.verify_gkr
  left_draws zero π t = omega arith
  left_draws (suc m) π t =
      subst (λ k. (Gkr.log_after F S t (Gkr.verify_gkr F S (suc m) π t)).used ≤ t.used + k) (Count.draws m)
      (VerifierCount.left_size F S (λ u. u.used) 0 1 observe_used drawn_used m π t)

  -- HOW MANY WORDS ARE IN THE LOG, where an element is four words

  module _ (four : (x : R) → length (words x) ≡ 4) where
    observe_words : (x : R) (t : Words) → length (S.observe x t).log ≡ length t.log + 4
    observe_words x t = length-append t.log (words x) ∙ ap (λ k. length t.log + k) (four x)

    drawn_words : (t : Words) → length (S.drawn t).log ≡ length t.log + 4
    drawn_words t =
        length-append t.log _
        ∙ ap (λ k. length t.log + k) (length-map (words (source t)) mark ∙ four (source t))

    pub done_words : (asserted : Bool) (m : ℕ) (f : ℕ → Frac R) (t : Words) (P : Gkr.Proved F S)
        → Gkr.fractional_sumcheck F S asserted m f t ≡ done P → length P.log.log ≡ length t.log + log_words asserted (suc m)
    done_words asserted m f t P e =
        Count.answer_size F S (λ u. length u.log) 4 4 observe_words drawn_words asserted m f t P e
        ∙ ap (λ k. length t.log + k + cond asserted 0 4) (Count.words m)
        ∙ omega arith

    pub accepted_words : (m : ℕ) (π : Proof R) (t : Words) (v : Frac R) (xi : List R) (u : Words)
        → Gkr.verify_gkr F S (suc m) π t ≡ accepted v xi u → length u.log ≡ length t.log + log_words true (suc m)
    accepted_words m π t v xi u e =
        (VerifierCount.accepted_size F S (λ u. length u.log) 4 4 observe_words drawn_words m π t v xi u e).0
        ∙ ap (λ k. length t.log + k) (Count.words m)

    -- accepted or not: at most those
    pub left_words : (n : ℕ) (π : Proof R) (t : Words)
        → length (Gkr.log_after F S t (Gkr.verify_gkr F S n π t)).log ≤ length t.log + log_words true n
    unfolding Gkr.verify_gkr
    left_words zero π t = omega arith
    left_words (suc m) π t =
        subst (λ k. length (Gkr.log_after F S t (Gkr.verify_gkr F S (suc m) π t)).log ≤ length t.log + k) (Count.words m)
        (VerifierCount.left_size F S (λ u. length u.log) 4 4 observe_words drawn_words m π t)

    -- HOW MANY OF THEM ARE SAMPLED

    pub drawn_marks : (t : Words) → length (sampled_words (S.drawn t).log) ≡ length (sampled_words t.log) + 4
    drawn_marks t =
        ap length (drawn_adds words source t)
        ∙ length-append (sampled_words t.log) _
        ∙ ap (λ k. length (sampled_words t.log) + k) (length-map (words (source t)) mark ∙ four (source t))

    drawn_marked : (t : Words) → Marked t → Marked (S.drawn t)
    drawn_marked t h = drawn_marks t ∙ omega (arith, h)

    module _ (plain : (x : R) → sampled_words (words x) ≡ []) where
      observe_marked : (x : R) (t : Words) → Marked t → Marked (S.observe x t)
      observe_marked x t h = ap length (observe_adds words source plain x t) ∙ h

      pub done_marked : (asserted : Bool) (m : ℕ) (f : ℕ → Frac R) (t : Words) (P : Gkr.Proved F S)
          → Gkr.fractional_sumcheck F S asserted m f t ≡ done P → Marked t → Marked P.log
      done_marked = Keeps.done_keeps F S Marked observe_marked drawn_marked

      pub left_marked : (n : ℕ) (π : Proof R) (t : Words) → Marked t → Marked (Gkr.log_after F S t (Gkr.verify_gkr F S n π t))
      left_marked = Keeps.verify_keeps F S Marked observe_marked drawn_marked

-- THE ORDER, where no word of an element has its top bit set

module _ (F : Field) (words : F.ring.carrier → List ℕ) (challenge : ℕ → F.ring.carrier) where
  abbrev A : Type 0
  A = F.ring.carrier

  abbrev next : Source A
  next t = challenge t.used

  abbrev T : Transcript A
  T = drawing words next

  -- the first k challenges as they stand in the log
  unfoldable pub firsts : (k : ℕ) → List ℕ
  firsts zero = []
  firsts (suc k) = firsts k ++ map mark (words (challenge k))

  -- the sampled words of a log are the challenges used so far
  abbrev pub Ordered : Words → Type 0
  Ordered t = sampled_words t.log ≡ firsts t.used

  module _ (plain : (x : A) → sampled_words (words x) ≡ []) where
    observe_ordered : (x : A) (t : Words) → Ordered t → Ordered (T.observe x t)
    observe_ordered x t h = observe_adds words next plain x t ∙ h

    drawn_ordered : (t : Words) → Ordered t → Ordered (T.drawn t)
    unfolding firsts
    drawn_ordered t h = drawn_adds words next t ∙ ap (λ l. l ++ map mark (words (challenge t.used))) h

    -- along the prover's run, and along the verifier's
    pub done_ordered : (asserted : Bool) (m : ℕ) (f : ℕ → Frac A) (t : Words) (P : Gkr.Proved F T)
        → Gkr.fractional_sumcheck F T asserted m f t ≡ done P → Ordered t → Ordered P.log
    done_ordered = Keeps.done_keeps F T Ordered observe_ordered drawn_ordered

    pub left_ordered : (n : ℕ) (π : Proof A) (t : Words) → Ordered t → Ordered (Gkr.log_after F T t (Gkr.verify_gkr F T n π t))
    left_ordered = Keeps.verify_keeps F T Ordered observe_ordered drawn_ordered

    -- from an empty log: the sampled words are the first C(n) challenges, in order
    pub done_samples : (asserted : Bool) (m : ℕ) (f : ℕ → Frac A) (P : Gkr.Proved F T)
        → Gkr.fractional_sumcheck F T asserted m f empty ≡ done P → sampled_words P.log.log ≡ firsts (challenges (suc m))
    unfolding sampled_words firsts
    done_samples asserted m f P e =
        done_ordered asserted m f empty P e refl ∙ ap firsts (done_draws F words next asserted m f _ P e ∙ zero-add _)

    pub accepted_samples : (m : ℕ) (π : Proof A) (v : Frac A) (xi : List A) (u : Words)
        → Gkr.verify_gkr F T (suc m) π empty ≡ accepted v xi u → sampled_words u.log ≡ firsts (challenges (suc m))
    unfolding sampled_words firsts
    accepted_samples m π v xi u e =
        subst (λ w. Ordered (Gkr.log_after F T empty w)) e (left_ordered (suc m) π empty refl)
        ∙ ap firsts (accepted_draws F words next m π _ v xi u e ∙ zero-add _)

-- IN A LOG OF EVENTS: the k-th sample is the k-th challenge

unfoldable pub InOrder : {A : Type 0} (challenge : ℕ → A) → List (Event A) → Type 0
InOrder challenge [] = Unit
InOrder challenge (observed x ∷ t) = InOrder challenge t
InOrder challenge (sampled x ∷ t) = (x ≡ challenge (count t)) × InOrder challenge t

module _ (F : Field) (cs : List F.ring.carrier) (none : F.ring.carrier) where
  abbrev Sup : Transcript F.ring.carrier
  Sup = supplied cs none

  abbrev I : List (Event F.ring.carrier) → Type 0
  I = InOrder (λ k. get_or cs k none)

  pub done_in_order : (asserted : Bool) (m : ℕ) (f : ℕ → Frac F.ring.carrier) (t : List (Event F.ring.carrier)) (P : Gkr.Proved F Sup)
      → Gkr.fractional_sumcheck F Sup asserted m f t ≡ done P → I t → I P.log
  unfolding InOrder
  done_in_order = Keeps.done_keeps F Sup I (λ x t h. h) (λ t h. (refl, h))

  pub left_in_order : (n : ℕ) (π : Proof F.ring.carrier) (t : List (Event F.ring.carrier)) → I t → I (Gkr.log_after F Sup t (Gkr.verify_gkr F Sup n π t))
  unfolding InOrder
  left_in_order = Keeps.verify_keeps F Sup I (λ x t h. h) (λ t h. (refl, h))
