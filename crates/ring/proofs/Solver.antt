-- The solver: an equation in a commutative ring holds if the difference of its sides, multiplied out, has no monomial left.
-- Assumes nothing.
use Prim.Native.Nat.{ℕ, ◌^◌, ◌≤◌, compare}
use Rattle.std.specs.Prelude.{◌≡◌, List, [], ◌∷◌}
use Rattle.std.proofs.Math.Path.{refl, sym, ap, ap₂}
use Rattle.std.proofs.Common.{◌∙◌, arith}
use Rattle.std.proofs.Math.Bridge.{IsLe, le_by_compare}
use Rattle.ring.specs.Ring.{CommRing, num}
use Rattle.ring.specs.RingLaws.{nil_add, one_mul, mul_nil, nil_mul, eq_of_sub, sub_of_eq, num_one}
use Rattle.ring.specs.Expression.{E, var, #◌, 𝟎, 𝟏, ◌⊕◌, ◌⊖◌, ◌⊗◌, ⊝◌, nth, den, P, none, more, flip, norm, deg, Left, Empty, Checks}
use Rattle.ring.specs.Monomial.{eq_by_compare, if_eq, no_left, if_le, mono, mono_zero, mono_var}
use Rattle.ring.specs.Meaning.{coef, coef_same, coef_whole, term, ev, ev_merge, ev_flip, ev_times}
use Rattle.ring.specs.Degree.{norm_small}

module _ (R : CommRing) (ρ : List R.carrier) where
  infixl 60 ◌+◌
  infixl 70 ◌*◌
  open R use {carrier as A, add as ◌+◌, mul as ◌*◌, neg as inv}

  one_term : (a : ℕ) (m : ℕ) (x y : A) → num R a ≡ x → mono R ρ m ≡ y → x * y ≡ ev R ρ (more a 0 m none)
  unfolding ev term
  one_term a m x y p q = sym (R.add_nil (coef R ρ a 0 * mono R ρ m) ∙ ap₂ ◌*◌ (coef_whole R ρ a ∙ p) q)

  norm_sound : (e : E) → deg e ≤ 255 → den R ρ e ≡ ev R ρ (norm e)
  norm_sound (var i) l = sym (one_mul R (nth R ρ i)) ∙ one_term 1 (256 ^ i) R.one (nth R ρ i) (num_one R) (mono_var R ρ i)
  norm_sound (# n) l = sym (R.mul_one (num R n)) ∙ one_term n 0 (num R n) R.one refl (mono_zero R ρ)
  norm_sound 𝟎 l = unfold ev in refl
  norm_sound 𝟏 l = sym (R.mul_one R.one) ∙ one_term 1 0 R.one R.one (num_one R) (mono_zero R ρ)
  norm_sound (a ⊕ b) l = ap₂ ◌+◌ (norm_sound a (omega arith)) (norm_sound b (omega arith)) ∙ sym (ev_merge R ρ (norm a) (norm b))
  norm_sound (a ⊖ b) l = ap₂ ◌+◌ (norm_sound a (omega arith)) (ap inv (norm_sound b (omega arith)) ∙ sym (ev_flip R ρ (norm b))) ∙ sym (ev_merge R ρ (norm a) (flip (norm b)))
  norm_sound (a ⊗ b) l = ap₂ ◌*◌ (norm_sound a (omega arith)) (norm_sound b (omega arith)) ∙ sym (ev_times R ρ (deg a) (deg b) l (norm a) (norm b) (norm_small R ρ a (omega arith)) (norm_small R ρ b (omega arith)))
  norm_sound (⊝ a) l = ap inv (norm_sound a l) ∙ sym (ev_flip R ρ (norm a))

  empty_ev : (p : P) → Empty p → ev R ρ p ≡ R.nil
  unfolding ev term
  empty_ev none t = refl
  empty_ev (more a b m p) t =
      let s = if_eq (compare a b) (Empty p) (Left a b m p) (no_left a b m p) t in
      ap₂ ◌+◌ (ap (λ u. u * mono R ρ m) (coef_same R ρ a b (eq_by_compare a b s.0)) ∙ nil_mul R (mono R ρ m)) (empty_ev p s.1) ∙ R.add_nil R.nil

  -- an expression that checks is nothing
  pub vanishes : (e : E) → Checks e → den R ρ e ≡ R.nil
  unfolding IsLe
  vanishes e t =
      let s = if_le (compare (deg e) 255) (Empty (norm e)) t in
      norm_sound e (le_by_compare (deg e) 255 s.0) ∙ empty_ev (norm e) s.1

  -- ---- THE SOLVER
  pub solve : (a b : E) → Checks (a ⊖ b) → den R ρ a ≡ den R ρ b
  solve a b t = eq_of_sub R (den R ρ a) (den R ρ b) (vanishes (a ⊖ b) t)

-- ---- with hypotheses: a − b is a sum of multiples of hypotheses l ≡ r, each with the factor c that is named for it
pub data H : Type 0 where
  ⟨◌·◌≈◌⟩ : E → E → E → H

abbrev pub Imp : (R : CommRing) → List R.carrier → List H → Type 0 → Type 0
Imp R ρ [] G = G
Imp R ρ (⟨ c · l ≈ r ⟩ ∷ hs) G = den R ρ l ≡ den R ρ r → Imp R ρ hs G

abbrev pub total : List H → E
total [] = 𝟎
total (⟨ c · l ≈ r ⟩ ∷ hs) = c ⊗ (l ⊖ r) ⊕ total hs

module _ (R : CommRing) (ρ : List R.carrier) where
  imp : (hs : List H) (G : Type 0) (x : R.carrier) → x ≡ R.nil → (R.add x (den R ρ (total hs)) ≡ R.nil → G) → Imp R ρ hs G
  imp [] G x e k = k (R.add_nil x ∙ e)
  imp (⟨ c · l ≈ r ⟩ ∷ hs) G x e k =
      λ h. imp hs G (R.add x (R.mul (den R ρ c) (R.add (den R ρ l) (R.neg (den R ρ r)))))
      (ap₂ R.add e (ap (R.mul (den R ρ c)) (sub_of_eq R (den R ρ l) (den R ρ r) h) ∙ mul_nil R (den R ρ c)) ∙ R.add_nil R.nil)
      (λ q. k (sym (R.add_assoc x (R.mul (den R ρ c) (R.add (den R ρ l) (R.neg (den R ρ r)))) (den R ρ (total hs))) ∙ q))

  pub combine : (hs : List H) (a b : E) → Checks (a ⊖ b ⊖ total hs) → Imp R ρ hs (den R ρ a ≡ den R ρ b)
  combine hs a b t =
      imp hs (den R ρ a ≡ den R ρ b) R.nil refl
      (λ q. eq_of_sub R (den R ρ a) (den R ρ b) (eq_of_sub R (R.add (den R ρ a) (R.neg (den R ρ b))) (den R ρ (total hs)) (vanishes R ρ (a ⊖ b ⊖ total hs) t) ∙ sym (nil_add R (den R ρ (total hs))) ∙ q))
