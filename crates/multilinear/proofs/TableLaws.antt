-- The laws of tables: folding binds the lowest bit, halving the top bit, the value is linear, the weights grow by doubling.
-- Assumes nothing.
use Rattle.std.specs.Prelude.{◌≡◌, Bool, not, ◌+◌ as ◌+ℕ◌, ◌-◌ as ◌-ℕ◌, T, ltb}
use Rattle.std.proofs.Math.Path.{refl, sym, ap, ap₂, fun_ext, subst}
use Rattle.std.proofs.Common.{◌∙◌, suc-ne-zero, le_refl, arith, length-append, ltb→lt, nltb→le}
use mathlib.Core.List.{List, [], ◌∷◌, ◌++◌, append-nil, append_assoc}
use Rattle.std.proofs.Math.Bool.{true, false, cond}
use Prim.Native.Nat.{ℕ, zero, suc, ◌≤◌, ◌<◌, ◌/◌, ◌%◌, ◌^◌}
use Rattle.std.proofs.Math.Nat.{pow-succ', suc_inj, le_step}
use Rattle.std.proofs.Math.Numerals.{add-one}
use Rattle.std.proofs.Math.ListN.{length}
use Rattle.ring.specs.Ring.{CommRing}
use Rattle.ring.specs.RingLaws
use Rattle.multilinear.specs.Forms
use Rattle.multilinear.specs.Identities
use Rattle.multilinear.specs.Table
use Rattle.multilinear.specs.Table.{even, odd}

even_bits : (y : ℕ) → (even y % 2 ≡ 0) × (even y / 2 ≡ y)
even_bits y = omega arith

odd_bits : (y : ℕ) → (odd y % 2 ≡ 1) × (odd y / 2 ≡ y)
odd_bits y = omega arith

even_suc : (n : ℕ) → even (suc n) ≡ suc (suc (even n))
even_suc n = omega arith

odd_suc : (n : ℕ) → suc (even n) ≡ odd n
odd_suc n = omega arith

pub even_top : (k i : ℕ) → even (2 ^ k +ℕ i) ≡ 2 ^ suc k +ℕ even i
even_top k i = omega arith

pub odd_top : (k i : ℕ) → odd (2 ^ k +ℕ i) ≡ 2 ^ suc k +ℕ odd i
odd_top k i = omega arith

top_bits : (k i : ℕ) → ((2 ^ suc k +ℕ i) % 2 ≡ i % 2) × ((2 ^ suc k +ℕ i) / 2 ≡ 2 ^ k +ℕ i / 2)
top_bits k i = omega arith

half_lt : (k i : ℕ) → i < 2 ^ suc k → i / 2 < 2 ^ k
half_lt k i h = omega arith

high_lt : (k i : ℕ) → i < 2 ^ suc k → 2 ^ k ≤ i → i -ℕ 2 ^ k < 2 ^ k
high_lt k i h l = omega arith

high_back : (k i : ℕ) → 2 ^ k ≤ i → 2 ^ k +ℕ (i -ℕ 2 ^ k) ≡ i
high_back k i l = omega arith

below_one : (i : ℕ) → i < 1 → i ≡ 0
below_one i h = omega arith

module _ (K : CommRing) where
  open K use {carrier as R, add as ◌+◌, mul as ◌*◌, nil, one, add_assoc, add_nil, mul_assoc, mul_comm, mul_add}

  infixl 65 ◌+◌ ◌-◌
  infixl 70 ◌*◌
  abbrev ◌-◌ : R → R → R
  ◌-◌ = Forms.◌-◌ K

  abbrev line : R → R → R → R
  line = Forms.line K

  abbrev sum : ℕ → (ℕ → R) → R
  sum = Table.sum K

  abbrev bit : R → ℕ → R
  bit = Table.bit K

  abbrev weight : List R → ℕ → R
  weight = Table.weight K

  abbrev value : (ℕ → R) → List R → R
  value = Table.value K

  abbrev fold : (ℕ → R) → R → ℕ → R
  fold = Table.fold K

  abbrev merge : ℕ → (ℕ → R) → R → ℕ → R
  merge = Table.merge K

  abbrev eq : List R → List R → R
  eq = Table.eq K

  abbrev grow : ℕ → (ℕ → R) → R → ℕ → R
  grow = Table.grow K

  abbrev double : ℕ → (ℕ → R) → List R → ℕ → R
  double = Table.double K

  abbrev Agrees : ℕ → (ℕ → R) → (ℕ → R) → Type 0
  Agrees = Table.Agrees K

  -- SUMS

  pub sum_cong : (n : ℕ) {f g : ℕ → R} → ((i : ℕ) → f i ≡ g i) → sum n f ≡ sum n g
  sum_cong n h = ap (sum n) (fun_ext h)

  -- only the entries that are summed matter
  pub sum_below : (n : ℕ) (f g : ℕ → R) → ((i : ℕ) → i < n → f i ≡ g i) → sum n f ≡ sum n g
  unfolding Table.sum
  sum_below zero f g h = refl
  sum_below (suc n) f g h = ap₂ ◌+◌ (sum_below n f g (λ i l. h i (le_step l))) (h n (le_refl _))

  pub sum_pairs : (n : ℕ) (f : ℕ → R) → sum (even n) f ≡ sum n (λ y. f (even y) + f (odd y))
  unfolding Table.sum
  sum_pairs zero f = refl
  sum_pairs (suc n) f =
      ap (λ k. sum k f) (even_suc n)
      ∙ ap₂ (λ a k. a + f (even n) + f k) (sum_pairs n f) (odd_suc n)
      ∙ add_assoc _ _ _

  pub sum_add : (n : ℕ) (f g : ℕ → R) → sum n (λ i. f i + g i) ≡ sum n f + sum n g
  unfolding Table.sum
  sum_add zero f g = sym (add_nil nil)
  sum_add (suc n) f g = ap (λ x. x + (f n + g n)) (sum_add n f g) ∙ RingLaws.add_swap K _ _ _ _

  pub sum_mul : (n : ℕ) (a : R) (f : ℕ → R) → sum n (λ i. a * f i) ≡ a * sum n f
  unfolding Table.sum
  sum_mul zero a f = sym (RingLaws.mul_nil K a)
  sum_mul (suc n) a f = ap (λ x. x + a * f n) (sum_mul n a f) ∙ sym (mul_add _ _ _)

  -- THE FIRST CHALLENGE BINDS THE LOWEST BIT

  pub weight_even : (z : R) (zs : List R) (y : ℕ) → weight (z ∷ zs) (even y) ≡ (one - z) * weight zs y
  unfolding Table.weight Table.bit
  weight_even z zs y = ap₂ (λ b k. bit z b * weight zs k) (even_bits y).0 (even_bits y).1

  pub weight_odd : (z : R) (zs : List R) (y : ℕ) → weight (z ∷ zs) (odd y) ≡ z * weight zs y
  unfolding Table.weight Table.bit
  weight_odd z zs y = ap₂ (λ b k. bit z b * weight zs k) (odd_bits y).0 (odd_bits y).1

  pub value_nil : (t : ℕ → R) → value t [] ≡ t 0
  unfolding Table.value Table.weight Table.sum
  value_nil t = Identities.alone K (t 0)

  pub value_fold : (t : ℕ → R) (z : R) (zs : List R) → value t (z ∷ zs) ≡ value (fold t z) zs
  unfolding Table.value Table.fold
  value_fold t z zs =
      ap (λ n. sum n (λ i. t i * weight (z ∷ zs) i)) (pow-succ' 2 (length zs))
      ∙ sum_pairs (2 ^ length zs) _
      ∙ sum_cong _ (λ y.
      ap₂ (λ u v. t (even y) * u + t (odd y) * v) (weight_even z zs y) (weight_odd z zs y)
      ∙ Identities.weighed K _ _ _ _)

  -- LINEAR IN THE TABLE

  pub value_linear : (t u : ℕ → R) (c : R) (zs : List R) → value (λ i. t i + c * u i) zs ≡ value t zs + c * value u zs
  unfolding Table.value
  value_linear t u c zs =
      sum_cong _ (λ i. Identities.spread K (t i) (u i) c (weight zs i)) ∙ sum_add _ _ _ ∙ ap (λ x. value t zs + x) (sum_mul _ c _)

  pub value_scale : (t : ℕ → R) (c : R) (zs : List R) → value (λ i. c * t i) zs ≡ c * value t zs
  unfolding Table.value
  value_scale t c zs = sum_cong _ (λ i. mul_assoc c (t i) (weight zs i)) ∙ sum_mul _ c _

  pub value_line : (t u : ℕ → R) (z : R) (zs : List R) → value (λ i. line (t i) (u i) z) zs ≡ line (value t zs) (value u zs) z
  value_line t u z zs =
      ap (λ f. value f zs) (fun_ext (λ i. Identities.line_sum K (t i) (u i) z))
      ∙ value_linear (λ i. t i + z * u i) t (K.neg z) zs
      ∙ ap (λ x. x + K.neg z * value t zs) (value_linear t u z zs)
      ∙ sym (Identities.line_sum K _ _ _)

  -- BY HALVES: THE LAST OF THE POINT BINDS THE TOP BIT

  pub value_halves : (t : ℕ → R) (zs : List R) (z : R)
      → value t (zs ++ (z ∷ [])) ≡ line (value t zs) (value (λ i. t (2 ^ length zs +ℕ i)) zs) z
  unfolding Table.fold
  value_halves t [] z =
      value_fold t z [] ∙ value_nil (fold t z)
      ∙ ap₂ (λ a b. line a b z) (sym (value_nil t)) (sym (value_nil (λ i. t (1 +ℕ i))))
  value_halves t (x ∷ xs) z =
      value_fold t x (xs ++ (z ∷ []))
      ∙ value_halves (fold t x) xs z
      ∙ ap₂ (λ a b. line a b z) (sym (value_fold t x xs))
      (ap (λ f. value f xs) (fun_ext (λ i. ap₂ (λ a b. line (t a) (t b) x) (even_top (length xs) i) (odd_top (length xs) i)))
      ∙ sym (value_fold (λ i. t (2 ^ suc (length xs) +ℕ i)) x xs))

  pub value_merge : (t : ℕ → R) (zs : List R) (z : R) → value t (zs ++ (z ∷ [])) ≡ value (merge (length zs) t z) zs
  unfolding Table.merge
  value_merge t zs z = value_halves t zs z ∙ sym (value_line t (λ i. t (2 ^ length zs +ℕ i)) z zs)

  -- EQ

  -- a times the weights, folded, is a times the agreement times the weights of the rest
  pub fold_weight : (a z r : R) (zs : List R) (y : ℕ) → fold (λ i. a * weight (z ∷ zs) i) r y ≡ a * Forms.agree K z r * weight zs y
  unfolding Table.fold
  fold_weight a z r zs y =
      ap₂ (λ u v. line (a * u) (a * v) r) (weight_even z zs y) (weight_odd z zs y) ∙ Identities.line_agree K a z r (weight zs y)

  pub eq_value : (xs ys : List R) → length xs ≡ length ys → value (weight xs) ys ≡ eq xs ys
  unfolding Table.eq Table.weight
  eq_value [] [] e = value_nil _
  eq_value [] (y ∷ ys) e = absurd (suc-ne-zero _ (sym e))
  eq_value (x ∷ xs) [] e = absurd (suc-ne-zero _ e)
  eq_value (x ∷ xs) (y ∷ ys) e =
      ap (λ f. value f (y ∷ ys)) (fun_ext (λ i. sym (RingLaws.one_mul K (weight (x ∷ xs) i))))
      ∙ value_fold (λ i. one * weight (x ∷ xs) i) y ys
      ∙ ap (λ f. value f ys) (fun_ext (fold_weight one x y xs))
      ∙ value_scale (weight xs) (one * Forms.agree K x y) ys
      ∙ ap₂ ◌*◌ (RingLaws.one_mul K _) (eq_value xs ys (suc_inj e))

  -- THE WEIGHTS BUILT BY DOUBLING: one variable more, x, takes the low half times 1 - x and the high half times x

  pub weight_low : (xs : List R) (x : R) (i : ℕ) → i < 2 ^ length xs → weight (xs ++ (x ∷ [])) i ≡ weight xs i * (one - x)
  unfolding Table.weight Table.bit
  weight_low [] x i h = ap (λ j. bit x (j % 2) * one) (below_one i h) ∙ mul_comm _ _
  weight_low (y ∷ ys) x i h =
      ap (λ w. bit y (i % 2) * w) (weight_low ys x (i / 2) (half_lt (length ys) i h)) ∙ sym (mul_assoc _ _ _)

  pub weight_high : (xs : List R) (x : R) (i : ℕ) → i < 2 ^ length xs → weight (xs ++ (x ∷ [])) (2 ^ length xs +ℕ i) ≡ weight xs i * x
  unfolding Table.weight Table.bit
  weight_high [] x i h = ap (λ j. bit x ((1 +ℕ j) % 2) * one) (below_one i h) ∙ mul_comm _ _
  weight_high (y ∷ ys) x i h =
      ap₂ (λ b k. bit y b * weight (ys ++ (x ∷ [])) k) (top_bits (length ys) i).0 (top_bits (length ys) i).1
      ∙ ap (λ w. bit y (i % 2) * w) (weight_high ys x (i / 2) (half_lt (length ys) i h))
      ∙ sym (mul_assoc _ _ _)

  pub grow_weight : (ys : List R) (x : R) (t : ℕ → R) → Agrees (length ys) t (weight ys) → Agrees (suc (length ys)) (grow (length ys) t x) (weight (ys ++ (x ∷ [])))
  unfolding Table.grow
  grow_weight ys x t h i l = go (ltb i (2 ^ length ys)) (ltb→lt i _) (nltb→le i _)
    where
      go : (b : Bool) → (T b → i < 2 ^ length ys) → (T (not b) → 2 ^ length ys ≤ i)
          → cond b (t i * (one - x)) (t (i -ℕ 2 ^ length ys) * x) ≡ weight (ys ++ (x ∷ [])) i
      go true lo hi = ap (λ v. v * (one - x)) (h i (lo tt)) ∙ sym (weight_low ys x i (lo tt))
      go false lo hi =
          let j = high_lt (length ys) i l (hi tt) in
          ap (λ v. v * x) (h _ j) ∙ sym (weight_high ys x _ j) ∙ ap (weight (ys ++ (x ∷ []))) (high_back (length ys) i (hi tt))

  pub value_agrees : (t u : ℕ → R) (zs : List R) → Agrees (length zs) t u → value t zs ≡ value u zs
  unfolding Table.value
  value_agrees t u zs h = sum_below (2 ^ length zs) _ _ (λ i l. ap (λ x. x * weight zs i) (h i l))

  pub double_weight : (ys xs zs : List R) (t : ℕ → R) → ys ++ xs ≡ zs → Agrees (length ys) t (weight ys) → Agrees (length zs) (double (length ys) t xs) (weight zs)
  unfolding Table.double
  double_weight ys [] zs t e h = subst (λ w. Agrees (length w) t (weight w)) (sym (append-nil ys) ∙ e) h
  double_weight ys (x ∷ xs) zs t e h =
      subst (λ k. Agrees k (grow (length ys) t x) (weight (ys ++ (x ∷ []))) → Agrees (length zs) (double k (grow (length ys) t x) xs) (weight zs))
      (length-append ys (x ∷ []) ∙ add-one (length ys))
      (double_weight (ys ++ (x ∷ [])) xs zs (grow (length ys) t x) (append_assoc ys (x ∷ []) xs ∙ e))
      (grow_weight ys x t h)

  pub doubled : (xs : List R) → Agrees (length xs) (double 0 (λ _. one) xs) (weight xs)
  unfolding Table.weight
  doubled xs = double_weight [] xs xs (λ _. one) refl (λ i l. refl)
