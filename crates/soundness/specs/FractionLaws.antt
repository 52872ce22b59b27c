-- What the root says of the plain sum: the root's numerator is zero exactly where the sum of the fractions is.
-- Assumes nothing.
use Prim.Native.Nat.{ℕ, zero, suc, ◌^◌}
use Rattle.std.specs.Prelude.{◌≡◌, [], ◌∷◌, ◌⊎◌, ◌↔◌}
use Rattle.std.proofs.Math.Path.{sym, ap, ap₂}
use Rattle.std.proofs.Common.{◌∙◌, inl, inr, arith}
use Rattle.std.proofs.Math.Nat.{pow-succ'}
use Rattle.ring.specs.Ring.{CommRing}
use Rattle.ring.specs.RingLaws.{mul_nil, nil_mul}
use Rattle.ring.proofs.Quote.{ring_by, quote, ◌▷◌}
use Rattle.multilinear.specs.Table
use Rattle.multilinear.specs.Table.{even, odd}
use Rattle.multilinear.proofs.TableLaws
use Rattle.gkr.specs.Run.{Frac}
use Rattle.gkr.specs.Tree
use Rattle.domain.specs.Field.{Domain}
use Rattle.domain.proofs.Tree.{paired, tree_paired, root_over_zero}
use Rattle.soundness.specs.Fractions.{Inverts, fractions}

module _ (K : CommRing) (D : Domain K) where
  infixl 65 ◌+◌
  infixl 70 ◌*◌
  open K use {carrier as R, add as ◌+◌, mul as ◌*◌, neg, nil, one}

  -- one row, two inverses, and two fractions as one
  one_row : (p q w : R) → q * w ≡ one → p ≡ q * (nil + p * w)
  one_row p q w e = ring_by K (p ∷ q ∷ w ∷ []) (neg p ▷ e ∷ []) (search quote) tt

  product : (a b v w : R) → a * v ≡ one → b * w ≡ one → a * b * (v * w) ≡ one
  product a b v w e g = ring_by K (a ∷ b ∷ v ∷ w ∷ []) (b * w ▷ e ∷ one ▷ g ∷ []) (search quote depth 40 fits 9999) tt

  pair : (a b c d v w : R) → b * v ≡ one → d * w ≡ one → (a * d + c * b) * (v * w) ≡ a * v + c * w
  pair a b c d v w e g = ring_by K (a ∷ b ∷ c ∷ d ∷ v ∷ w ∷ []) (c * w ▷ e ∷ a * v ▷ g ∷ []) (search quote depth 40 fits 9999) tt

  root_is : (f : ℕ → Frac R) (w : ℕ → R) (n : ℕ) → Inverts K f w (2 ^ n) → (Tree.tree K f n 0).p ≡ (Tree.tree K f n 0).q * fractions K f w (2 ^ n)
  unfolding Tree.tree Table.sum
  root_is f w zero i = one_row (f 0).p (f 0).q (w 0) (i 0 (omega arith))
  root_is f w (suc n) i =
      ap (λ t. t.p) (tree_paired K f n 0)
      ∙ root_is (paired K f) (λ y. w (even y) * w (odd y)) n (λ y l. product (f (even y)).q (f (odd y)).q (w (even y)) (w (odd y)) (i (even y) (omega arith)) (i (odd y) (omega arith)))
      ∙ ap₂ (λ t s. t.q * s) (sym (tree_paired K f n 0)) (pairs ∙ sym whole)
    where
      pairs : Table.sum K (2 ^ n) (λ y. (paired K f y).p * (w (even y) * w (odd y))) ≡ Table.sum K (2 ^ n) (λ y. (f (even y)).p * w (even y) + (f (odd y)).p * w (odd y))
      pairs = TableLaws.sum_below K (2 ^ n) _ _ (λ y l. pair (f (even y)).p (f (even y)).q (f (odd y)).p (f (odd y)).q (w (even y)) (w (odd y)) (i (even y) (omega arith)) (i (odd y) (omega arith)))

      whole : fractions K f w (2 ^ suc n) ≡ Table.sum K (2 ^ n) (λ y. (f (even y)).p * w (even y) + (f (odd y)).p * w (odd y))
      whole = ap (λ k. fractions K f w k) (pow-succ' 2 n) ∙ TableLaws.sum_pairs K (2 ^ n) (λ i. (f i).p * w i)

  -- THE SUM IS ZERO exactly where the root's numerator is
  pub zero_sum : (f : ℕ → Frac R) (w : ℕ → R) (n : ℕ) → ¬ (one ≡ nil) → Inverts K f w (2 ^ n) → ((Tree.tree K f n 0).p ≡ nil) ↔ (fractions K f w (2 ^ n) ≡ nil)
  zero_sum f w n o i = (λ e. down (D.no_zero _ _ (sym (root_is f w n i) ∙ e)), λ e. root_is f w n i ∙ ap (λ t. (Tree.tree K f n 0).q * t) e ∙ mul_nil K _)
    where
      down : ((Tree.tree K f n 0).q ≡ nil) ⊎ (fractions K f w (2 ^ n) ≡ nil) → fractions K f w (2 ^ n) ≡ nil
      down (inl e) = let z = (root_over_zero K D f n).0 e in absurd (o (sym (i z.0 z.1) ∙ ap (λ t. t * w z.0) z.2 ∙ nil_mul K _))
      down (inr e) = e
