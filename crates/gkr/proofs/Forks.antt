-- Two runs of the verifier over one proof, with challenges from two sources, are the same, or part at a challenge in which the sources differ.
-- Assumes nothing.
use Rattle.std.specs.Prelude.{◌≡◌, refl, Bool, true, false, ◌⊎◌, List, [], ◌++◌, map, ℕ}
use Rattle.std.proofs.Common.{sym, ◌∙◌, ap, true≢false, inl, inr, ⊎_elim, append-nil, append_assoc}
use Rattle.ring.specs.Field.{Field}
use Rattle.gkr.specs.Run.{Transcript, Proof}
use Rattle.gkr.specs.Gkr
use Rattle.gkr.specs.Transcripts.{mark, Words, Source, drawing}
use Rattle.gkr.proofs.Steps
use Rattle.gkr.proofs.ReadLaws as Reads

-- a field whose test is exact decides whether elements are equal
pub decided : (F : Field) (exact : (x y : F.ring.carrier) → F.same x y ≡ true → x ≡ y) (x y : F.ring.carrier) → (x ≡ y) ⊎ ¬ (x ≡ y)
decided F exact x y = go (F.same x y) refl
  where
    go : (b : Bool) → F.same x y ≡ b → (x ≡ y) ⊎ ¬ (x ≡ y)
    go true h = inl (exact x y h)
    go false h = inr (λ e. true≢false (sym (F.same_refl x) ∙ ap (F.same x) e ∙ h))

-- the words L go on from the log t
pub record Extends (t : Words) (L : List ℕ) : Type 0 where
  pub rest : List ℕ
  pub whole : t.log ++ rest ≡ L

-- every log of a run goes on to the log that it leaves
module _ (F : Field) (words : F.ring.carrier → List ℕ) (s : Source F.ring.carrier) where
  abbrev onto : (L : List ℕ) → Steps.Way F words s
  onto L = record {
    On = λ t. Extends t L;
    observed = λ x t h. record { rest = words x ++ h.rest; whole = sym (append_assoc t.log (words x) h.rest) ∙ h.whole };
    sampled = λ t h. record { rest = map mark (words (s t)) ++ h.rest; whole = sym (append_assoc t.log (map mark (words (s t))) h.rest) ∙ h.whole };
  }

module _ (F : Field) (words : F.ring.carrier → List ℕ) (s s' : Source F.ring.carrier) where
  abbrev R : Type 0
  R = F.ring.carrier

  abbrev S : Transcript R
  S = drawing words s

  abbrev S' : Transcript R
  S' = drawing words s'

  -- the log where two runs part: the sources differ on it, and the logs left, L and L', go on from it with the one challenge and with the other
  pub record Fork (L L' : List ℕ) : Type 0 where
    pub at : Words
    pub differ : ¬ (s at ≡ s' at)
    pub here : Extends (S.drawn at) L
    pub there : Extends (S'.drawn at) L'

  module _ (eq? : (x y : R) → (x ≡ y) ⊎ ¬ (x ≡ y)) where
    -- accepted or not, from any log
    pub forks : (n : ℕ) (π : Proof R) (t : Words)
        → let v = Gkr.verify_gkr F S n π t in
        let v' = Gkr.verify_gkr F S' n π t in Reads.Same F words s s' v v' ⊎ Fork (Gkr.log_after F S t v).log (Gkr.log_after F S' t v').log
    forks n π t =
        let L = (Gkr.log_after F S t (Gkr.verify_gkr F S n π t)).log in
        let L' = (Gkr.log_after F S' t (Gkr.verify_gkr F S' n π t)).log in
        Reads.same_or F words s s' (onto F words s L) (onto F words s' L') (Fork L L')
        (λ u a b. ⊎_elim inl (λ d. inr (record { at = u; differ = d; here = a; there = b })) (eq? (s u) (s' u)))
        n π t (record { rest = []; whole = append-nil L }) (record { rest = []; whole = append-nil L' })
