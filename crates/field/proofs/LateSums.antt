-- Sums of products that are reduced late.
-- Assumes nothing.
use mathlib.Core.Path.{◌≡◌, sym, ◌∙◌, ap, ap₂}
use mathlib.Core.List.{[], ◌∷◌}
use Prim.Native.Nat.{ℕ, ◌+◌, ◌*◌, ◌-◌, ◌/◌, ◌%◌, ◌≤◌, ◌<◌}
use native.Mathlib.Nat.{mul-add-mod_self_left, div-add-mod, mod-lt}
use native.Mathlib.Omega.{arith}
use Rattle.ring.proofs.Quote.{ring, quote}
use Rattle.field.specs.Base as B
use Rattle.field.specs.Base.{F, P, of, add, mul}
use Rattle.field.specs.BaseRing.{Base, of_eq, of_mul, f_add_assoc}
use Rattle.field.specs.Ext as E
use Rattle.field.specs.ExtRing.{e_add_nil}

pub more : (k n : ℕ) → of (P * k + n) ≡ of n
more k n = of_eq _ _ (mul-add-mod_self_left P k n)

-- less twice the square of the prime
pub less : (s : ℕ) → 8106479337319956482 ≤ s → of (s - 8106479337319956482) ≡ of s
less s h =
    let e : P * 4026531842 + (s - 8106479337319956482) ≡ s = omega arith in
    sym (more 4026531842 (s - 8106479337319956482)) ∙ ap of e

-- 11·2^32 is 939524073 and 23 times the prime
pub eleven_small : (s : ℕ) → 4 * (s / 4294967296 * 939524073 + s % 4294967296 * 11) ≤ s + 188978561020
eleven_small s =
    let d : 4294967296 * (s / 4294967296) + s % 4294967296 ≡ s = div-add-mod s 4294967296 in
    let l : s % 4294967296 < 4294967296 = mod-lt s (omega arith) in
    omega arith

pub eleven_folded : (s : ℕ) → of (s / 4294967296 * 939524073 + s % 4294967296 * 11) ≡ mul E.eleven (of s)
unfolding E.eleven
eleven_folded s =
    let d : 4294967296 * (s / 4294967296) + s % 4294967296 ≡ s = div-add-mod s 4294967296 in
    let e : P * (23 * (s / 4294967296)) + (s / 4294967296 * 939524073 + s % 4294967296 * 11) ≡ 11 * s = omega arith in
    sym (more (23 * (s / 4294967296)) (s / 4294967296 * 939524073 + s % 4294967296 * 11)) ∙ ap of e ∙ of_mul 11 s

-- two products of elements, coordinate by coordinate
pub both : (w x y h k : F) → add (add x y) (mul w (add h k)) ≡ add (add x (mul w h)) (add y (mul w k))
both w x y h k = ring Base (w ∷ x ∷ y ∷ h ∷ k ∷ []) (search quote depth 20 fits 9999) tt

pub both_three : (w x u v z h k : F) → add (add (add x u) (add v z)) (mul w (add h k)) ≡ add (add x (mul w h)) (add (add (add u v) z) (mul w k))
both_three w x u v z h k = ring Base (w ∷ x ∷ u ∷ v ∷ z ∷ h ∷ k ∷ []) (search quote depth 20 fits 9999) tt

pub both_four : (x r s y v z : F) → add (add x (add r s)) (add y (add v z)) ≡ add (add (add x r) s) (add (add y v) z)
both_four x r s y v z = ap₂ add (sym (f_add_assoc x r s)) (sym (f_add_assoc y v z))

pub nothing_more : (x : E.Ext) → E.add x (E.ext 0 0 0 0) ≡ x
unfolding E.nil E.emb E.ext B.nil
nothing_more x = e_add_nil x
