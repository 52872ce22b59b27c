-- Words and the field elements that they stand for.
-- Assumes nothing.
use mathlib.Core.Path.{◌≡◌, sym, ◌∙◌, ap}
use Prim.Native.Nat.{ℕ, ◌+◌, ◌-◌, ◌%◌, ◌≤◌, ◌<◌}
use native.Mathlib.Nat.{mod-eq-sub-mod, add-mod_right}
use native.Mathlib.Omega.{arith}
use mathlib.Core.List.{List, [], ◌∷◌}
use Rattle.field.specs.Base.{F, P, of, add, mul, neg}
use Rattle.field.specs.BaseRing.{Base, of_eq, of_sub}
use Rattle.field.specs.Ext as E
use Rattle.field.specs.ExtRing.{ext_path}
use Rattle.field.specs.declared.Ext.{Ext}
use Rattle.field.specs.Element.{Is}
use Rattle.ring.proofs.Quote.{ring, quote}

pub over : (s : ℕ) → P ≤ s → of (s - P) ≡ of s
over s h = of_eq _ _ (sym (mod-eq-sub-mod h))

pub diff : (a b : ℕ) → b ≤ a → b ≤ P → of (a - b) ≡ add (of a) (neg (of b))
diff a b h k =
    let e : a - b + P ≡ a + P - b = omega arith in
    of_eq (a - b) (a + P - b) (sym (add-mod_right (a - b) P) ∙ ap (λ n. n % P) e) ∙ of_sub a b k

-- four canonical words that stand for the four coordinates
pub is_four : {r : Ext} {x : E.Ext} → (r.c0 < P) × (of r.c0 ≡ x.c0) → (r.c1 < P) × (of r.c1 ≡ x.c1) → (r.c2 < P) × (of r.c2 ≡ x.c2) → (r.c3 < P) × (of r.c3 ≡ x.c3) → Is r x
unfolding E.ext
is_four h k l m = record { canon = record { c0 = h.0; c1 = k.0; c2 = l.0; c3 = m.0 }; value = ext_path h.1 k.1 l.1 m.1 }

-- the coordinates of a product; x, y and z are w times b1, b2 and b3
module _ (w a0 a1 a2 a3 b0 b1 b2 b3 : F) where
  infixl 60 ◌⊕◌
  infixl 70 ◌⊗◌
  abbrev ◌⊕◌ : F → F → F
  ◌⊕◌ = add

  abbrev ◌⊗◌ : F → F → F
  ◌⊗◌ = mul

  abbrev all : List F
  all = w ∷ a0 ∷ a1 ∷ a2 ∷ a3 ∷ b0 ∷ b1 ∷ b2 ∷ b3 ∷ []

  pub coord0 : a0 ⊗ b0 ⊕ a1 ⊗ (w ⊗ b3) ⊕ a2 ⊗ (w ⊗ b2) ⊕ a3 ⊗ (w ⊗ b1) ≡ a0 ⊗ b0 ⊕ w ⊗ (a1 ⊗ b3 ⊕ a2 ⊗ b2 ⊕ a3 ⊗ b1)
  coord0 = ring Base all (search quote depth 20 fits 9999) tt

  pub coord0_by : (c : F) {x y z : F} → x ≡ w ⊗ b1 → y ≡ w ⊗ b2 → z ≡ w ⊗ b3 → a0 ⊗ b0 ⊕ a1 ⊗ z ⊕ a2 ⊗ y ⊕ a3 ⊗ x ⊕ c ≡ a0 ⊗ b0 ⊕ w ⊗ (a1 ⊗ b3 ⊕ a2 ⊗ b2 ⊕ a3 ⊗ b1) ⊕ c
  coord0_by c ex ey ez = ap (λ (t : F). t ⊕ c) ((λ i. a0 ⊗ b0 ⊕ a1 ⊗ (ez i) ⊕ a2 ⊗ (ey i) ⊕ a3 ⊗ (ex i)) ∙ coord0)

  pub coord1 : a0 ⊗ b1 ⊕ a1 ⊗ b0 ⊕ a2 ⊗ (w ⊗ b3) ⊕ a3 ⊗ (w ⊗ b2) ≡ a0 ⊗ b1 ⊕ a1 ⊗ b0 ⊕ w ⊗ (a2 ⊗ b3 ⊕ a3 ⊗ b2)
  coord1 = ring Base all (search quote depth 20 fits 9999) tt

  pub coord1_by : (c : F) {y z : F} → y ≡ w ⊗ b2 → z ≡ w ⊗ b3 → a0 ⊗ b1 ⊕ a1 ⊗ b0 ⊕ a2 ⊗ z ⊕ a3 ⊗ y ⊕ c ≡ a0 ⊗ b1 ⊕ a1 ⊗ b0 ⊕ w ⊗ (a2 ⊗ b3 ⊕ a3 ⊗ b2) ⊕ c
  coord1_by c ey ez = ap (λ (t : F). t ⊕ c) ((λ i. a0 ⊗ b1 ⊕ a1 ⊗ b0 ⊕ a2 ⊗ (ez i) ⊕ a3 ⊗ (ey i)) ∙ coord1)

  pub coord2 : a0 ⊗ b2 ⊕ a1 ⊗ b1 ⊕ a2 ⊗ b0 ⊕ a3 ⊗ (w ⊗ b3) ≡ a0 ⊗ b2 ⊕ a1 ⊗ b1 ⊕ a2 ⊗ b0 ⊕ w ⊗ (a3 ⊗ b3)
  coord2 = ring Base all (search quote depth 20 fits 9999) tt

  pub coord2_by : (c : F) {z : F} → z ≡ w ⊗ b3 → a0 ⊗ b2 ⊕ a1 ⊗ b1 ⊕ a2 ⊗ b0 ⊕ a3 ⊗ z ⊕ c ≡ a0 ⊗ b2 ⊕ a1 ⊗ b1 ⊕ a2 ⊗ b0 ⊕ w ⊗ (a3 ⊗ b3) ⊕ c
  coord2_by c ez = ap (λ (t : F). t ⊕ c) ((λ i. a0 ⊗ b2 ⊕ a1 ⊗ b1 ⊕ a2 ⊗ b0 ⊕ a3 ⊗ (ez i)) ∙ coord2)
