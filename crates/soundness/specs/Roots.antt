-- A polynomial of n + 1 coefficients, not all zero, has at most n roots (Schwartz and Zippel in one variable).
-- Assumes nothing.
use Rattle.std.specs.Prelude.{ℕ, suc, ◌≤◌, ◌≡◌, refl, List, [], ◌∷◌, ◌⊎◌, length}
use Rattle.std.proofs.Common.{sym, ap, subst, inl, inr, le_of_suc-le-suc, arith}
use Rattle.std.proofs.Math.Decide.{dec_le}
use Rattle.ring.specs.Ring.{CommRing}
use Rattle.ring.specs.RingLaws.{eq_of_sub}
use Rattle.ring.proofs.Quote.{ring, ring_by, quote, ◌▷◌}
use Rattle.multilinear.specs.Forms
use Rattle.domain.specs.Field.{Domain}
use Rattle.soundness.specs.Few.{All, Distinct, AtMost}
use Rattle.soundness.specs.FewLaws.{all_both}

module _ (K : CommRing) where
  open K use {carrier as R, add as ◌+◌, mul as ◌*◌, neg, nil, one}

  infixl 65 ◌+◌ ◌-◌
  infixl 70 ◌*◌
  abbrev ◌-◌ : R → R → R
  ◌-◌ = Forms.◌-◌ K

  -- the first coefficient is the constant one
  abbrev pub eval : List R → R → R
  eval [] x = nil
  eval (c ∷ cs) x = c + x * eval cs x

  abbrev pub Zeros : List R → Type 0
  Zeros = All (λ c. c ≡ nil)

  -- (c ∷ cs) divided by x - r: the values at r of what is left of cs
  abbrev tails : List R → R → List R
  tails [] r = []
  tails (c ∷ cs) r = eval (c ∷ cs) r ∷ tails cs r

  tails_length : (cs : List R) (r : R) → length (tails cs r) ≡ length cs
  tails_length [] r = refl
  tails_length (c ∷ cs) r = ap suc (tails_length cs r)

  divided : (cs : List R) (r x : R) → x * eval cs x - r * eval cs r ≡ (x - r) * eval (tails cs r) x
  divided [] r x = ring K (r ∷ x ∷ []) (search quote) tt
  divided (c ∷ cs) r x = step c (eval cs x) (eval cs r) (eval (tails cs r) x) (divided cs r x)
    where
      step : (c e f t : R) → x * e - r * f ≡ (x - r) * t → x * (c + x * e) - r * (c + r * f) ≡ (x - r) * (c + r * f + x * t)
      step c e f t h = ring_by K (r ∷ x ∷ c ∷ e ∷ f ∷ t ∷ []) (x ▷ h ∷ []) (search quote depth 40 fits 9999) tt

  -- a constant coefficient, from the value and from what is left
  constant : (c r e : R) → c + r * e ≡ nil → e ≡ nil → c ≡ nil
  constant c r e h k = ring_by K (c ∷ r ∷ e ∷ []) (one ▷ h ∷ neg r ▷ k ∷ []) (search quote) tt

  back : (cs : List R) (r : R) → Zeros (tails cs r) → Zeros cs × (eval cs r ≡ nil)
  back [] r h = (tt, refl)
  back (c ∷ cs) r h = let rest = back cs r h.1 in ((constant c r (eval cs r) h.0 rest.1, rest.0), h.0)

  module _ (D : Domain K) where
    -- with as many roots as coefficients all coefficients are zero
    all_zero : (xs cs : List R) → length cs ≤ length xs → Distinct xs → All (λ x. eval cs x ≡ nil) xs → Zeros cs
    all_zero [] [] l d h = tt
    all_zero [] (c ∷ cs) l d h = absurd (omega arith)
    all_zero (r ∷ xs) [] l d h = tt
    all_zero (r ∷ xs) (c ∷ cs) l d h =
        let roots : All (λ x. eval (tails cs r) x ≡ nil) xs =
        all_both (λ x. ¬ (r ≡ x)) (λ x. eval (c ∷ cs) x ≡ nil) (λ x. eval (tails cs r) x ≡ nil)
        (λ x n e. factor x n (eval cs x) (eval cs r) (eval (tails cs r) x) e h.0 (divided cs r x)) xs d.0 h.1 in
        let z = back cs r (all_zero xs (tails cs r) (subst (λ k. k ≤ length xs) (sym (tails_length cs r)) (le_of_suc-le-suc l)) d.1 roots) in
        (constant c r (eval cs r) h.0 z.1, z.0)
      where
        factor : (x : R) → ¬ (r ≡ x) → (e f t : R) → c + x * e ≡ nil → c + r * f ≡ nil → x * e - r * f ≡ (x - r) * t → t ≡ nil
        factor x n e f t hx hr hd = go (D.no_zero (x - r) t (ring_by K (c ∷ r ∷ x ∷ e ∷ f ∷ t ∷ []) (one ▷ hx ∷ neg one ▷ hr ∷ neg one ▷ hd ∷ []) (search quote depth 40 fits 9999) tt))
          where
            go : (x - r ≡ nil) ⊎ (t ≡ nil) → t ≡ nil
            go (inl z) = absurd (n (sym (eq_of_sub K x r z)))
            go (inr z) = z

    -- THE ROOTS ARE FEW
    pub few_roots : (n : ℕ) (cs : List R) → length cs ≤ suc n → ¬ Zeros cs → AtMost n (λ x. eval cs x ≡ nil)
    few_roots n cs l nz xs d h = go (dec_le (length xs) n)
      where
        go : Dec (length xs ≤ n) → length xs ≤ n
        go (yes k) = k
        go (no k) = absurd (nz (all_zero xs cs (omega arith) d h))
