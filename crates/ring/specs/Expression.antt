-- Equations as expressions that compute: over a list of elements, multiplied out into sums of monomials, and the check of a difference.
-- A monomial is one native number: the exponent of the variable i is its digit i to the base 256. So the product of two monomials is one
-- native sum, and their order is one native comparison. The total degree must stay below 256, which the check sees to.
-- Assumes nothing.
use Prim.Native.Nat.{ℕ, zero, suc, max, ◌^◌, compare, Ordering}
use Rattle.std.specs.Prelude.{◌+◌ as ◌+ℕ◌, ◌*◌ as ◌*ℕ◌, List, [], ◌∷◌}
use Rattle.ring.specs.Ring.{CommRing, num}

-- ---- expressions. `var i` is the element at place i of the list, `# n` the number n of the ring.
infixl 60 ◌⊕◌ ◌⊖◌
infixl 70 ◌⊗◌
infix 90 #◌ ⊝◌
pub data E : Type 0 where
  var : ℕ → E
  #◌ : ℕ → E
  𝟎 : E
  𝟏 : E
  ◌⊕◌ : E → E → E
  ◌⊖◌ : E → E → E
  ◌⊗◌ : E → E → E
  ⊝◌ : E → E

abbrev pub nth : (R : CommRing) → List R.carrier → ℕ → R.carrier
nth R [] i = R.one
nth R (x ∷ ρ) zero = x
nth R (x ∷ ρ) (suc i) = nth R ρ i

abbrev pub den : (R : CommRing) → List R.carrier → E → R.carrier
den R ρ (var i) = nth R ρ i
den R ρ (# n) = num R n
den R ρ 𝟎 = R.nil
den R ρ 𝟏 = R.one
den R ρ (a ⊕ b) = R.add (den R ρ a) (den R ρ b)
den R ρ (a ⊖ b) = R.add (den R ρ a) (R.neg (den R ρ b))
den R ρ (a ⊗ b) = R.mul (den R ρ a) (den R ρ b)
den R ρ (⊝ a) = R.neg (den R ρ a)

-- ---- sums of monomials, in the order of their numbers: `more a b m p` is (a − b) times the monomial m, plus p
pub data P : Type 0 where
  none : P
  more : ℕ → ℕ → ℕ → P → P

abbrev pub choose : Ordering → (a b m : ℕ) → (P → P) → (c d n : ℕ) → (Unit {0} → P) → P → P
choose Ordering.lt a b m f c d n g q = more a b m (f (more c d n q))
choose Ordering.eq a b m f c d n g q = more (a +ℕ c) (b +ℕ d) m (f q)
choose Ordering.gt a b m f c d n g q = more c d n (g tt)

abbrev pub into : (a b m : ℕ) → P → (P → P) → P → P
into a b m p f none = more a b m p
into a b m p f (more c d n q) = choose (compare m n) a b m f c d n (λ t. into a b m p f q) q

abbrev pub merge : P → P → P
merge none q = q
merge (more a b m p) q = into a b m p (λ r. merge p r) q

abbrev pub flip : P → P
flip none = none
flip (more a b m p) = more b a m (flip p)

abbrev pub scale : (a b m : ℕ) → P → P
scale a b m none = none
scale a b m (more c d n q) = more (a *ℕ c +ℕ b *ℕ d) (a *ℕ d +ℕ b *ℕ c) (m +ℕ n) (scale a b m q)

abbrev pub times : P → P → P
times none q = none
times (more a b m p) q = merge (scale a b m q) (times p q)

abbrev pub norm : E → P
norm (var i) = more 1 0 (256 ^ i) none
norm (# n) = more n 0 0 none
norm 𝟎 = none
norm 𝟏 = more 1 0 0 none
norm (a ⊕ b) = merge (norm a) (norm b)
norm (a ⊖ b) = merge (norm a) (flip (norm b))
norm (a ⊗ b) = times (norm a) (norm b)
norm (⊝ a) = flip (norm a)

abbrev pub deg : E → ℕ
deg (var i) = 1
deg (# n) = 0
deg 𝟎 = 0
deg 𝟏 = 0
deg (a ⊕ b) = max (deg a) (deg b)
deg (a ⊖ b) = max (deg a) (deg b)
deg (a ⊗ b) = deg a +ℕ deg b
deg (⊝ a) = deg a

-- ---- the check: on closed expressions its type computes to `Unit`, and its proof is `tt`, or to a type with no element that shows what is
-- left: `Left a b m p` is (a − b) times the monomial m, plus p
pub data Left : ℕ → ℕ → ℕ → P → Type 0 where

pub data DegreeOver255 : Type 0 where

abbrev pub IfEq : Ordering → Type 0 → Type 0 → Type 0
IfEq Ordering.lt T U = U
IfEq Ordering.eq T U = T
IfEq Ordering.gt T U = U

abbrev pub IfLe : Ordering → Type 0 → Type 0
IfLe Ordering.lt T = T
IfLe Ordering.eq T = T
IfLe Ordering.gt T = DegreeOver255

abbrev pub Empty : P → Type 0
Empty none = Unit {0}
Empty (more a b m p) = IfEq (compare a b) (Empty p) (Left a b m p)

abbrev pub Checks : E → Type 0
Checks e = IfLe (compare (deg e) 255) (Empty (norm e))
