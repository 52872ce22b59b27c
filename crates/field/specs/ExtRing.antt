-- The extension is a commutative ring, in which 2 and 6 have inverses.
-- Assumes nothing.
use Rattle.std.specs.Prelude.{ℕ, zero, suc, ◌≡◌, List, [], ◌∷◌, Bool, true, false, ◌&&◌, eqb}
use Rattle.std.proofs.Math.Path.{refl, sym}
use Rattle.std.proofs.Common.{◌∙◌, ap, eqb-true, eq-eqb}
use Rattle.ring.specs.Ring.{CommRing, num}
use Rattle.ring.specs.RingLaws.{nil_add}
use Rattle.ring.proofs.Quote.{ring, quote}
use Rattle.field.specs.Base as B
use Rattle.field.specs.Base.{F, of}
use Rattle.field.specs.BaseRing as L
use Rattle.field.specs.BaseRing.{f_path, Base}
use Rattle.field.specs.Ext.{Ext, eleven, ext, emb, add, neg, mul, nil, one, two, x, half, sixth, same}

pub ext_path : {a b : Ext} → a.c0 ≡ b.c0 → a.c1 ≡ b.c1 → a.c2 ≡ b.c2 → a.c3 ≡ b.c3 → a ≡ b
ext_path p q r s = λ i. record { c0 = p i; c1 = q i; c2 = r i; c3 = s i }

-- the words of three elements, and 11: what the solver takes for unknowns
abbrev unknowns : Ext → Ext → Ext → List F
unknowns a b c = a.c0 ∷ a.c1 ∷ a.c2 ∷ a.c3 ∷ b.c0 ∷ b.c1 ∷ b.c2 ∷ b.c3 ∷ c.c0 ∷ c.c1 ∷ c.c2 ∷ c.c3 ∷ eleven ∷ []

-- ---- the laws
pub e_add_assoc : (a b c : Ext) → add (add a b) c ≡ add a (add b c)
unfolding add
e_add_assoc a b c = ext_path (Base.add_assoc a.c0 b.c0 c.c0) (Base.add_assoc a.c1 b.c1 c.c1) (Base.add_assoc a.c2 b.c2 c.c2) (Base.add_assoc a.c3 b.c3 c.c3)

pub e_add_comm : (a b : Ext) → add a b ≡ add b a
unfolding add
e_add_comm a b = ext_path (Base.add_comm a.c0 b.c0) (Base.add_comm a.c1 b.c1) (Base.add_comm a.c2 b.c2) (Base.add_comm a.c3 b.c3)

pub e_add_nil : (a : Ext) → add a nil ≡ a
unfolding add nil emb
e_add_nil a = ext_path (Base.add_nil a.c0) (Base.add_nil a.c1) (Base.add_nil a.c2) (Base.add_nil a.c3)

pub e_add_neg : (a : Ext) → add a (neg a) ≡ nil
unfolding add neg nil emb
e_add_neg a = ext_path (Base.add_neg a.c0) (Base.add_neg a.c1) (Base.add_neg a.c2) (Base.add_neg a.c3)

pub e_mul_assoc : (a b c : Ext) → mul (mul a b) c ≡ mul a (mul b c)
unfolding mul
e_mul_assoc a b c =
    let ρ : List F = unknowns a b c in
    ext_path (ring Base ρ (search quote depth 20 fits 9999) tt) (ring Base ρ (search quote depth 20 fits 9999) tt) (ring Base ρ (search quote depth 20 fits 9999) tt) (ring Base ρ (search quote depth 20 fits 9999) tt)

pub e_mul_comm : (a b : Ext) → mul a b ≡ mul b a
unfolding mul
e_mul_comm a b =
    let ρ : List F = unknowns a b a in
    ext_path (ring Base ρ (search quote depth 20 fits 9999) tt) (ring Base ρ (search quote depth 20 fits 9999) tt) (ring Base ρ (search quote depth 20 fits 9999) tt) (ring Base ρ (search quote depth 20 fits 9999) tt)

pub e_mul_one : (a : Ext) → mul a one ≡ a
unfolding mul one emb
e_mul_one a =
    let ρ : List F = unknowns a a a in
    ext_path (ring Base ρ (search quote depth 20 fits 9999) tt) (ring Base ρ (search quote depth 20 fits 9999) tt) (ring Base ρ (search quote depth 20 fits 9999) tt) (ring Base ρ (search quote depth 20 fits 9999) tt)

pub e_mul_add : (a b c : Ext) → mul a (add b c) ≡ add (mul a b) (mul a c)
unfolding mul add
e_mul_add a b c =
    let ρ : List F = unknowns a b c in
    ext_path (ring Base ρ (search quote depth 20 fits 9999) tt) (ring Base ρ (search quote depth 20 fits 9999) tt) (ring Base ρ (search quote depth 20 fits 9999) tt) (ring Base ρ (search quote depth 20 fits 9999) tt)

-- ---- the ring
abbrev pub ExtRing : CommRing
ExtRing =
    record {
      carrier = Ext;
      add = add;
      mul = mul;
      neg = neg;
      nil = nil;
      one = one;
      add_assoc = e_add_assoc;
      add_comm = e_add_comm;
      add_nil = e_add_nil;
      add_neg = e_add_neg;
      mul_assoc = e_mul_assoc;
      mul_comm = e_mul_comm;
      mul_one = e_mul_one;
      mul_add = e_mul_add;
    }

pub from_zero : (a : Ext) → add (ext 0 0 0 0) (neg a) ≡ neg a
unfolding nil emb ext B.nil
from_zero a = nil_add ExtRing (neg a)

-- a product by a base element is one product a coordinate
pub mul_emb : (a : Ext) (b : F) → mul a (emb b) ≡ record { c0 = B.mul a.c0 b; c1 = B.mul a.c1 b; c2 = B.mul a.c2 b; c3 = B.mul a.c3 b }
unfolding mul emb
mul_emb a b =
    let ρ : List F = b ∷ unknowns a a a in
    ext_path (ring Base ρ (search quote depth 20 fits 9999) tt) (ring Base ρ (search quote depth 20 fits 9999) tt) (ring Base ρ (search quote depth 20 fits 9999) tt) (ring Base ρ (search quote depth 20 fits 9999) tt)

-- ---- by computation: `unfolding arithmetic` opens all that closed elements compute by
unfoldable pub arithmetic : Unit {0}
unfolding ext emb add neg mul nil one two x half sixth eleven B.add B.mul B.neg B.nil B.one B.two B.half B.sixth of
arithmetic = tt

pub x_fourth : mul (mul (mul x x) x) x ≡ ext 11 0 0 0
unfolding arithmetic
x_fourth = refl

-- ---- the embedding keeps the operations
pub emb_add : (a b : F) → emb (B.add a b) ≡ add (emb a) (emb b)
unfolding emb add
emb_add a b = ext_path refl (sym (Base.add_nil B.nil)) (sym (Base.add_nil B.nil)) (sym (Base.add_nil B.nil))

pub emb_mul : (a b : F) → emb (B.mul a b) ≡ mul (emb a) (emb b)
unfolding emb mul
emb_mul a b =
    let ρ : List F = a ∷ b ∷ eleven ∷ [] in
    ext_path (ring Base ρ (search quote depth 20 fits 9999) tt) (ring Base ρ (search quote depth 20 fits 9999) tt) (ring Base ρ (search quote depth 20 fits 9999) tt) (ring Base ρ (search quote depth 20 fits 9999) tt)

pub num_ext : (n : ℕ) → num ExtRing n ≡ emb (num Base n)
unfolding num
num_ext zero = unfold nil in refl
num_ext (suc n) = ap (λ t. add t one) (num_ext n) ∙ back (num Base n)
  where
    back : (a : F) → add (emb a) one ≡ emb (B.add a B.one)
    back a = unfold one in sym (emb_add a B.one)

-- 2 and 6 have inverses here too
pub two_half : mul (num ExtRing 2) half ≡ one
unfolding half
two_half = ap (λ t. mul t (emb B.half)) (num_ext 2 ∙ ap emb (L.num_of 2)) ∙ sym (emb_mul (of 2) B.half) ∙ ap emb L.two_half ∙ (unfold one in refl)

pub six_sixth : mul (num ExtRing 6) sixth ≡ one
unfolding sixth
six_sixth = ap (λ t. mul t (emb B.sixth)) (num_ext 6 ∙ ap emb (L.num_of 6)) ∙ sym (emb_mul (of 6) B.sixth) ∙ ap emb L.six_sixth ∙ (unfold one in refl)

-- ---- the test of equality
pub both : (p q : Bool) → (p && q) ≡ true → (p ≡ true) × (q ≡ true)
both true q e = (refl, e)
both false q e = (e, cc)

pub same_true : (a b : Ext) → same a b ≡ true → a ≡ b
unfolding same
same_true a b e =
    let h = both (eqb a.c0.val b.c0.val) _ e in
    let k = both (eqb a.c1.val b.c1.val) _ h.1 in
    let l = both (eqb a.c2.val b.c2.val) (eqb a.c3.val b.c3.val) k.1 in
    ext_path (f_path (eqb-true a.c0.val b.c0.val h.0)) (f_path (eqb-true a.c1.val b.c1.val k.0))
    (f_path (eqb-true a.c2.val b.c2.val l.0)) (f_path (eqb-true a.c3.val b.c3.val l.1))

pub same_of : (a b : Ext) → a ≡ b → same a b ≡ true
unfolding same
same_of a b e = rw (← e) (simp (eq-eqb a.c0.val a.c0.val refl, eq-eqb a.c1.val a.c1.val refl, eq-eqb a.c2.val a.c2.val refl, eq-eqb a.c3.val a.c3.val refl))
