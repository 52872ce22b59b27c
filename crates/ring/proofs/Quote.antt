-- The solver that reads the goal: `ring R (a ∷ b ∷ []) (search quote) tt` proves an equation between elements that are made of a and b by
-- the operations of R. `search quote` finds how the two sides are written, and the solver compares them.
-- `ring-by R (a ∷ b ∷ []) (c ▷ h ∷ []) (search quote) tt` may also use h : l ≡ r, taken c times.
-- `Quote R ρ u t` holds the ways to write t over the list ρ.
-- Assumes nothing.
use Rattle.std.specs.Prelude.{ℕ, suc, ◌+◌, ◌≡◌, refl, List, [], ◌∷◌}
use Rattle.std.proofs.Common.{sym, ◌∙◌, ap, ap₂, zero-add, add-zero, add-suc, suc-add}
use Rattle.ring.specs.Ring.{CommRing, num}
use Rattle.ring.specs.RingLaws.{eq_of_sub, sub_of_eq, mul_nil}
use Rattle.ring.specs.Expression.{nth, den, Checks, E, var, #◌, 𝟎, 𝟏, ◌⊕◌, ◌⊖◌, ◌⊗◌, ⊝◌}
use Rattle.ring.proofs.Solver.{vanishes}

-- The first index of these three types is always `R.one`. It says nothing: `search` finds a ring that is a definition, as `ExtRing`, only
-- where what it looks for names one of the ring's fields.
pub data Quote (R : CommRing) (ρ : List R.carrier) : R.carrier → R.carrier → Type 0 where
  at : (i : ℕ) {t : R.carrier} → nth R ρ i ≡ t → Quote R ρ R.one t
  q_num : (n : ℕ) → Quote R ρ R.one (num R n)
  q_nil : Quote R ρ R.one R.nil
  q_one : Quote R ρ R.one R.one
  q_add : {a b : R.carrier} → Quote R ρ R.one a → Quote R ρ R.one b → Quote R ρ R.one (R.add a b)
  q_mul : {a b : R.carrier} → Quote R ρ R.one a → Quote R ρ R.one b → Quote R ρ R.one (R.mul a b)
  q_neg : {a : R.carrier} → Quote R ρ R.one a → Quote R ρ R.one (R.neg a)

module _ (R : CommRing) (ρ : List R.carrier) where
  abbrev pub expr : {u t : R.carrier} → Quote R ρ u t → E
  expr (at i e) = var i
  expr (q_num n) = # n
  expr q_nil = 𝟎
  expr q_one = 𝟏
  expr (q_add a b) = expr a ⊕ expr b
  expr (q_mul a b) = expr a ⊗ expr b
  expr (q_neg a) = ⊝ expr a

  expr_den : {u t : R.carrier} (q : Quote R ρ u t) → den R ρ (expr q) ≡ t
  expr_den (at i e) = e
  expr_den (q_num n) = refl
  expr_den q_nil = refl
  expr_den q_one = refl
  expr_den (q_add a b) = ap₂ R.add (expr_den a) (expr_den b)
  expr_den (q_mul a b) = ap₂ R.mul (expr_den a) (expr_den b)
  expr_den (q_neg a) = ap R.neg (expr_den a)

  -- a way to write t, given one for each element of l
  abbrev pub Given : List R.carrier → R.carrier → Type 0
  Given [] t = Quote R ρ R.one t
  Given (x ∷ l) t = Quote R ρ R.one x → Given l t

  pub step : (x : R.carrier) (l : List R.carrier) (k : ℕ) → ((i : ℕ) → nth R ρ (k + i) ≡ nth R (x ∷ l) i) → (i : ℕ) → nth R ρ (suc k + i) ≡ nth R l i
  step x l k h i = ap (nth R ρ) (suc-add k i ∙ sym (add-suc k i)) ∙ h (suc i)

  pub first : (x : R.carrier) (l : List R.carrier) (k : ℕ) → ((i : ℕ) → nth R ρ (k + i) ≡ nth R (x ∷ l) i) → nth R ρ k ≡ x
  first x l k h = ap (nth R ρ) (sym (add-zero k)) ∙ h 0

  abbrev pub feed : {t : R.carrier} (l : List R.carrier) (k : ℕ) → ((i : ℕ) → nth R ρ (k + i) ≡ nth R l i) → Given l t → Quote R ρ R.one t
  feed [] k h q = q
  feed (x ∷ l) k h q = feed l (suc k) (step x l k h) (q (at k (first x l k h)))

  pub start : (i : ℕ) → nth R ρ (0 + i) ≡ nth R ρ i
  start i = ap (nth R ρ) (zero-add i)

  abbrev pub whole : (t : R.carrier) → Given ρ t → E
  whole t q = expr (feed {t = t} ρ 0 start q)

  -- the value of what is written is t
  whole_den : (t : R.carrier) (q : Given ρ t) → den R ρ (whole t q) ≡ t
  whole_den t q = expr_den (feed {t = t} ρ 0 start q)

-- an equation that holds, with the factor by which it is to be taken
infix 68 ◌▷◌
pub data Fact (R : CommRing) : Type 0 where
  ◌▷◌ : (c : R.carrier) {l r : R.carrier} → l ≡ r → Fact R

pub data Uses (R : CommRing) (ρ : List R.carrier) : R.carrier → List (Fact R) → Type 0 where
  q_none : Uses R ρ R.one []
  q_fact : {c l r : R.carrier} {h : l ≡ r} {fs : List (Fact R)} → Given R ρ ρ c → Given R ρ ρ l → Given R ρ ρ r → Uses R ρ R.one fs → Uses R ρ R.one (c ▷ h ∷ fs)

pub data Sides (R : CommRing) (ρ : List R.carrier) (fs : List (Fact R)) (s t : R.carrier) : R.carrier → Type 0 where
  q_eq : Given R ρ ρ s → Given R ρ ρ t → Uses R ρ R.one fs → Sides R ρ fs s t R.one

module _ (R : CommRing) (ρ : List R.carrier) where
  abbrev pub all : {u : R.carrier} {fs : List (Fact R)} → Uses R ρ u fs → E
  all q_none = 𝟎
  all (q_fact {c = c} {l = l} {r = r} p q s u) = whole R ρ c p ⊗ (whole R ρ l q ⊖ whole R ρ r s) ⊕ all u

  all_den : {v : R.carrier} {fs : List (Fact R)} (u : Uses R ρ v fs) → den R ρ (all u) ≡ R.nil
  all_den q_none = refl
  all_den (q_fact {c = c} {l = l} {r = r} {h = h} p q s u) =
      ap₂ R.add (ap (R.mul (den R ρ (whole R ρ c p))) (sub_of_eq R (den R ρ (whole R ρ l q)) (den R ρ (whole R ρ r s)) (whole_den R ρ l q ∙ h ∙ sym (whole_den R ρ r s))) ∙ mul_nil R (den R ρ (whole R ρ c p))) (all_den u)
      ∙ R.add_nil R.nil

  abbrev pub gap : {fs : List (Fact R)} {s t u : R.carrier} → Sides R ρ fs s t u → E
  gap {s = s} {t = t} (q_eq p q u) = whole R ρ s p ⊖ whole R ρ t q ⊖ all u

  from_sides : {fs : List (Fact R)} {s t u : R.carrier} (k : Sides R ρ fs s t u) → Checks (gap k) → s ≡ t
  from_sides {s = s} {t = t} (q_eq p q u) c =
      sym (whole_den R ρ s p)
      ∙ eq_of_sub R (den R ρ (whole R ρ s p)) (den R ρ (whole R ρ t q)) (eq_of_sub R (den R ρ (whole R ρ s p ⊖ whole R ρ t q)) (den R ρ (all u)) (vanishes R ρ (whole R ρ s p ⊖ whole R ρ t q ⊖ all u) c) ∙ all_den u)
      ∙ whole_den R ρ t q

  -- ---- s ≡ t, from facts l ≡ r that are each taken c times: s − t is the sum of the c·(l − r)
  pub ring_by : (fs : List (Fact R)) {s t : R.carrier} (k : Sides R ρ fs s t R.one) → Checks (gap k) → s ≡ t
  ring_by fs k c = from_sides k c

  -- ---- s ≡ t
  pub ring : {s t : R.carrier} (k : Sides R ρ [] s t R.one) → Checks (gap k) → s ≡ t
  ring k c = ring_by [] k c

pub ruleset quote = (q_add, q_mul, q_neg, q_nil, q_one, q_num, q_eq, q_none, q_fact)
