-- Fermat's little theorem over any commutative ring: where p is zero and the numbers below p have inverses, n ^ p is n.
-- Assumes nothing.
use Prim.Native.Nat.{ℕ, zero, suc, ◌<◌, ◌^◌}
use Rattle.std.specs.Prelude.{◌+◌ as ◌+ℕ◌, ◌*◌ as ◌*ℕ◌, ◌≡◌, refl, [], ◌∷◌}
use Rattle.std.proofs.Common.{sym, ◌∙◌, mul-suc, mul-zero, arith}
use Rattle.std.proofs.Math.Path.{ap, ap₂}
use Rattle.std.proofs.Math.Nat.{pow-succ'}
use Rattle.ring.specs.Ring.{CommRing, num, pow}
use Rattle.ring.specs.RingLaws.{nil_mul, num_zero, num_one, num_add, num_mul, pow_zero, pow_suc, pow_add}
use Rattle.ring.proofs.Quote.{ring, ring_by, quote, ◌▷◌}
use Rattle.multilinear.specs.Table as Table
use Rattle.multilinear.proofs.TableLaws.{sum_below, sum_add, sum_mul}

-- THE BINOMIALS

choose : ℕ → ℕ → ℕ
choose n zero = 1
choose zero (suc k) = 0
choose (suc n) (suc k) = choose n k +ℕ choose n (suc k)

choose_first : (n : ℕ) → choose n 0 ≡ 1
unfolding choose
choose_first n = refl

choose_over : (n k : ℕ) → n < k → choose n k ≡ 0
unfolding choose
choose_over n zero h = absurd (omega arith)
choose_over zero (suc k) h = refl
choose_over (suc n) (suc k) h = omega (arith, choose_over n k (omega arith), choose_over n (suc k) (omega arith))

choose_all : (n : ℕ) → choose n n ≡ 1
unfolding choose
choose_all zero = refl
choose_all (suc n) = omega (arith, choose_all n, choose_over n (suc n) (omega arith))

absorb : (n k : ℕ) → suc k *ℕ choose (suc n) (suc k) ≡ suc n *ℕ choose n k
unfolding choose
absorb zero zero = refl
absorb zero (suc k) = omega arith
absorb (suc n) zero = omega (arith, absorb n zero)
absorb (suc n) (suc k) = omega (arith, absorb n k, absorb n (suc k))

module _ (R : CommRing) where
  infixl 60 ◌+◌
  infixl 70 ◌*◌
  open R use {carrier as A, add as ◌+◌, mul as ◌*◌, nil as 𝟘, one as 𝟙}

  -- SUMS AND POWERS

  abbrev sum : ℕ → (ℕ → A) → A
  sum = Table.sum R

  first_term : (n : ℕ) (f : ℕ → A) → sum (suc n) f ≡ f 0 + sum n (λ k. f (suc k))
  unfolding Table.sum
  first_term zero f = R.add_comm 𝟘 (f 0)
  first_term (suc n) f = ap (λ t. t + f (suc n)) (first_term n f) ∙ R.add_assoc _ _ _

  no_terms : (n : ℕ) (f : ℕ → A) → ((i : ℕ) → i < n → f i ≡ 𝟘) → sum n f ≡ 𝟘
  no_terms n f h = sum_below R n f (λ i. 𝟘 * 𝟘) (λ i l. h i l ∙ sym (nil_mul R 𝟘)) ∙ sum_mul R n 𝟘 (λ i. 𝟘) ∙ nil_mul R _

  pub pow_mul : (x : A) (m n : ℕ) → pow R x (m *ℕ n) ≡ pow R (pow R x m) n
  pow_mul x m zero = ap (pow R x) (mul-zero m) ∙ pow_zero R x ∙ sym (pow_zero R _)
  pow_mul x m (suc n) = ap (pow R x) (mul-suc m n) ∙ pow_add R x (m *ℕ n) m ∙ R.mul_comm _ _ ∙ ap (λ t. pow R x m * t) (pow_mul x m n) ∙ sym (pow_suc R _ n)

  pub pow_two : (x : A) → pow R x 2 ≡ x * x
  unfolding pow
  pow_two x = ring R (x ∷ []) (search quote) tt

  -- x ^ (2 ^ n), by n squarings
  abbrev pub squares : ℕ → A → A
  squares zero x = x
  squares (suc n) x = squares n (x * x)

  pub pow_squares : (n : ℕ) (x : A) → pow R x (2 ^ n) ≡ squares n x
  pow_squares zero x = pow_suc R x 0 ∙ ap (λ t. x * t) (pow_zero R x) ∙ R.mul_one x
  pow_squares (suc n) x = ap (pow R x) (pow-succ' 2 n) ∙ pow_mul x 2 (2 ^ n) ∙ ap (λ t. pow R t (2 ^ n)) (pow_two x) ∙ pow_squares n (x * x)

  -- THE BINOMIAL THEOREM

  abbrev term : A → ℕ → ℕ → A
  term x n k = num R (choose n k) * pow R x k

  term_first : (x : A) (n : ℕ) → term x n 0 ≡ 𝟙
  term_first x n = ap₂ (λ a b. num R a * b) (choose_first n) (pow_zero R x) ∙ ap (λ t. t * 𝟙) (num_one R) ∙ R.mul_one 𝟙

  term_step : (x : A) (n k : ℕ) → term x (suc n) (suc k) ≡ x * term x n k + term x n (suc k)
  unfolding choose
  term_step x n k =
      ap₂ ◌*◌ (num_add R (choose n k) (choose n (suc k))) (pow_suc R x k)
      ∙ spread (num R (choose n k)) (num R (choose n (suc k))) x (pow R x k)
      ∙ ap (λ t. x * term x n k + num R (choose n (suc k)) * t) (sym (pow_suc R x k))
    where
      spread : (a b x p : A) → (a + b) * (x * p) ≡ x * (a * p) + b * (x * p)
      spread a b x p = ring R (a ∷ b ∷ x ∷ p ∷ []) (search quote) tt

  -- the first n + 1 terms are all: with one more the sum is the same
  last_term : (x : A) (n : ℕ) → term x n (suc n) ≡ 𝟘
  last_term x n = ap (λ k. num R k * pow R x (suc n)) (choose_over n (suc n) (omega arith)) ∙ ap (λ t. t * pow R x (suc n)) (num_zero R) ∙ nil_mul R _

  all_terms : (x : A) (n : ℕ) → 𝟙 + sum (suc n) (λ k. term x n (suc k)) ≡ sum (suc n) (term x n)
  all_terms x n = ap (λ t. t + sum (suc n) (λ k. term x n (suc k))) (sym (term_first x n)) ∙ sym (first_term (suc n) (term x n)) ∙ cut
    where
      cut : sum (suc (suc n)) (term x n) ≡ sum (suc n) (term x n)
      cut = unfold Table.sum in (ap (λ t. sum (suc n) (term x n) + t) (last_term x n) ∙ R.add_nil _)

  sum_step : (x : A) (n : ℕ) → sum (suc (suc n)) (term x (suc n)) ≡ x * sum (suc n) (term x n) + sum (suc n) (term x n)
  sum_step x n =
      first_term (suc n) (term x (suc n))
      ∙ ap₂ ◌+◌ (term_first x (suc n)) spread
      ∙ swap _ _ _
      ∙ ap (λ t. x * sum (suc n) (term x n) + t) (all_terms x n)
    where
      spread : sum (suc n) (λ k. term x (suc n) (suc k)) ≡ x * sum (suc n) (term x n) + sum (suc n) (λ k. term x n (suc k))
      spread =
          sum_below R (suc n) _ _ (λ k l. term_step x n k)
          ∙ sum_add R (suc n) _ _
          ∙ ap (λ t. t + sum (suc n) (λ k. term x n (suc k))) (sum_mul R (suc n) x (term x n))

      swap : (a b c : A) → a + (b + c) ≡ b + (a + c)
      swap a b c = ring R (a ∷ b ∷ c ∷ []) (search quote) tt

  binomial : (x : A) (n : ℕ) → pow R (x + 𝟙) n ≡ sum (suc n) (term x n)
  binomial x zero = pow_zero R _ ∙ sym (first_term 0 (term x 0) ∙ ap₂ ◌+◌ (term_first x 0) nothing ∙ R.add_nil 𝟙)
    where
      nothing : sum 0 (λ k. term x 0 (suc k)) ≡ 𝟘
      nothing = no_terms 0 _ (λ i l. absurd (omega arith))
  binomial x (suc n) = pow_suc R _ n ∙ ap (λ t. (x + 𝟙) * t) (binomial x n) ∙ expand x (sum (suc n) (term x n)) ∙ sym (sum_step x n)
    where
      expand : (x s : A) → (x + 𝟙) * s ≡ x * s + s
      expand x s = ring R (x ∷ s ∷ []) (search quote) tt

  -- FERMAT, for p = m + 1: (k + 1)·C(p, k + 1) = p·C(m, k) is zero, and so are the binomials between the first and the last

  module _ (m : ℕ) (none : num R (suc m) ≡ 𝟘) (invert : (k : ℕ) → 0 < k → k < suc m → (b : A) × (num R k * b ≡ 𝟙)) where
    gone : (k c b : A) → k * b ≡ 𝟙 → k * c ≡ 𝟘 → c ≡ 𝟘
    gone k c b e h = ring_by R (k ∷ c ∷ b ∷ []) (R.neg c ▷ e ∷ b ▷ h ∷ []) (search quote) tt

    absorbed : (k : ℕ) → num R (suc k) * num R (choose (suc m) (suc k)) ≡ 𝟘
    absorbed k =
        sym (num_mul R (suc k) (choose (suc m) (suc k)))
        ∙ ap (num R) (absorb m k)
        ∙ num_mul R (suc m) (choose m k)
        ∙ ap (λ t. t * num R (choose m k)) none
        ∙ nil_mul R _

    middle : (x : A) (k : ℕ) → k < m → term x (suc m) (suc k) ≡ 𝟘
    middle x k h =
        let b = invert (suc k) (omega arith) (omega arith) in
        ap (λ t. t * pow R x (suc k)) (gone (num R (suc k)) (num R (choose (suc m) (suc k))) b.0 b.1 (absorbed k)) ∙ nil_mul R _

    freshman : (x : A) → pow R (x + 𝟙) (suc m) ≡ pow R x (suc m) + 𝟙
    freshman x = binomial x (suc m) ∙ cut
      where
        last : term x (suc m) (suc m) ≡ pow R x (suc m)
        last = ap (λ k. num R k * pow R x (suc m)) (choose_all (suc m)) ∙ ap (λ t. t * pow R x (suc m)) (num_one R) ∙ R.mul_comm _ _ ∙ R.mul_one _

        front : sum (suc m) (term x (suc m)) ≡ 𝟙
        front = first_term m _ ∙ ap₂ ◌+◌ (term_first x (suc m)) (no_terms m _ (middle x)) ∙ R.add_nil 𝟙

        cut : sum (suc (suc m)) (term x (suc m)) ≡ pow R x (suc m) + 𝟙
        cut = unfold Table.sum in (ap₂ ◌+◌ front last ∙ R.add_comm _ _)

    pub fermat : (n : ℕ) → pow R (num R n) (suc m) ≡ num R n
    unfolding num
    fermat zero = pow_suc R 𝟘 m ∙ nil_mul R _
    fermat (suc n) = freshman (num R n) ∙ ap (λ t. t + 𝟙) (fermat n)
