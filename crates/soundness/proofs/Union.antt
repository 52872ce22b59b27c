-- THE UNION BOUND: where each step is fixed before its challenge is drawn, how many sequences of challenges hit a bad one.
-- Assumes nothing.
use Prim.Native.Nat.{ℕ, suc, ◌+◌, ◌*◌, ◌^◌, ◌≤◌}
use Rattle.std.specs.Prelude.{◌≡◌, Bool, true, ◌⊎◌, get_or}
use Rattle.std.proofs.Common.{sym, ap, subst, inl, inr, pow-suc, arith}
use mathlib.Core.List.{List, [], ◌∷◌, map}
use Rattle.std.proofs.Math.Nat.{mul-le-mul_right}
use Rattle.std.proofs.Math.Decide.{ℕ_discrete}
use Rattle.std.proofs.Math.ListN.{length}
use Rattle.soundness.specs.Few.{Some, Distinct, AtMost}
use Rattle.soundness.specs.Steps.{Drawn}
use Rattle.soundness.specs.Tally.{sum_over, tally}
use Rattle.soundness.specs.TallyLaws.{sum_scaled, sum_few, tally_most, tally_none}
use Rattle.soundness.specs.Errors.{added}
use Rattle.soundness.specs.Provers.{along}

module _ {Q A : Type 0} (most : Q → ℕ) (bad : Q → A → Type 0) (few : (s : Q) → AtMost (most s) (bad s)) (decide : (s : Q) (x : A) → Dec (bad s x)) where
  -- the challenges stand at the places ks, and one of them is bad
  abbrev pub HitsAt : (ks : List ℕ) → List (Drawn Q A) → Type 0
  HitsAt ks ds = (map (λ d. most d.step) ds ≡ ks) × Some (λ d. bad d.step d.challenge) ds

  close : (t N n w k : ℕ) {u : ℕ} → t * N ≡ u → u ≤ w * (N ^ n * N) + N * (k * N ^ n) → t * N ≤ (w + k) * N ^ suc n
  close t N n w k a b = subst (λ i. t * N ≤ (w + k) * i) (sym (pow-suc N n)) (omega (arith, a, b, spread w k (N ^ n) N))
    where
      spread : (w k z N : ℕ) → w * (z * N) + N * (k * z) ≡ (w + k) * (z * N)
      spread w k z N = omega arith

  -- one place: its step is fixed, and for each challenge there what is left has the bound
  module _ (w : ℕ) (ks : List ℕ) (table : List A → Q) (p : List A → Bool) (X : List A) (d : Distinct X) where
    abbrev N : ℕ
    N = length X

    abbrev T : A → ℕ
    T x = tally X (length ks) (λ cs. p (x ∷ cs))

    -- after a challenge that is not bad
    later : (x : A) → ¬ bad (table []) x → (cs : List A) → HitsAt (w ∷ ks) (along table (x ∷ cs)) → HitsAt ks (along (λ before. table (x ∷ before)) cs)
    later x n cs k = go k.1
      where
        tail : List ℕ → List ℕ
        tail [] = []
        tail (j ∷ js) = js

        go : bad (table []) x ⊎ Some (λ c. bad c.step c.challenge) (along (λ before. table (x ∷ before)) cs) → HitsAt ks (along (λ before. table (x ∷ before)) cs)
        go (inl b) = absurd (n b)
        go (inr s) = (ap tail k.0, s)

    -- a step of another kind
    other : ¬ (most (table []) ≡ w) → (cs : List A) → length cs ≡ suc (length ks) → HitsAt (w ∷ ks) (along table cs) → ⊥
    other n [] e k = absurd (omega (arith, e))
    other n (x ∷ cs) e k = n (ap (λ l. get_or l 0 0) k.0)

    place : ((cs : List A) → length cs ≡ suc (length ks) → p cs ≡ true → HitsAt (w ∷ ks) (along table cs))
        → ((x : A) → ((cs : List A) → length cs ≡ length ks → p (x ∷ cs) ≡ true → HitsAt ks (along (λ before. table (x ∷ before)) cs)) → T x * N ≤ added ks * N ^ length ks)
        → sum_over T X * N ≤ (w + added ks) * N ^ suc (length ks)
    unfolding tally
    place h rest = go (ℕ_discrete (most (table [])) w)
      where
        go : Dec (most (table []) ≡ w) → sum_over T X * N ≤ (w + added ks) * N ^ suc (length ks)
        go (no n) = omega (arith, mul-le-mul_right N (tally_none X (suc (length ks)) p (λ cs e t. other n cs e (h cs e t))))
        go (yes e) =
            let good : (x : A) → ¬ bad (table []) x → T x * N ≤ added ks * N ^ length ks = λ x n. rest x (λ cs l t. later x n cs (h (x ∷ cs) (ap suc l) t)) in
            let all : (x : A) → T x * N ≤ N ^ length ks * N = λ x. mul-le-mul_right N (tally_most X (length ks) (λ cs. p (x ∷ cs))) in
            close (sum_over T X) N (length ks) w (added ks) (sum_scaled T N X)
            (sum_few (bad (table [])) (decide (table [])) w (subst (λ k. AtMost k (bad (table []))) e (few (table []))) (λ x. T x * N) (N ^ length ks * N) (added ks * N ^ length ks) all good X d)

  -- of the sequences of challenges out of X, no more than added ks out of length X pass a test that only those pass which hit a bad one
  pub bound : (ks : List ℕ) (table : List A → Q) (p : List A → Bool) → ((cs : List A) → length cs ≡ length ks → p cs ≡ true → HitsAt ks (along table cs))
      → (X : List A) → Distinct X → tally X (length ks) p * length X ≤ added ks * length X ^ length ks
  unfolding tally added
  bound [] table p h X d = omega (arith, mul-le-mul_right (length X) (tally_none X 0 p (λ cs e t. none cs e (h cs e t))))
    where
      none : (cs : List A) → length cs ≡ 0 → HitsAt [] (along table cs) → ⊥
      none [] e k = k.1
      none (x ∷ cs) e k = absurd (omega (arith, e))
  bound (w ∷ ks) table p h X d = place w ks table p X d h (λ x k. bound ks (λ before. table (x ∷ before)) (λ cs. p (x ∷ cs)) k X d)
