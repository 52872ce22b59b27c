-- One turn of the loops that answer an element, and their last.
-- Assumes nothing.
use mathlib.Core.Path.{◌≡◌, refl, sym, ◌∙◌, ap, ap₂, fun_ext}
use mathlib.Core.List.{List}
use Prim.Native.Nat.{ℕ, zero, suc, ◌+◌, ◌-◌, ◌<◌, ◌≤◌}
use native.Mathlib.Nat.{not-suc-le-zero}
use native.Mathlib.Numerals.{add-one}
use native.Mathlib.Omega.{arith}
use lib.ListN.{get_or}
use Rattle.field.specs.Base as B
use Rattle.field.specs.Base.{P}
use Rattle.field.specs.Ext as E
use Rattle.field.specs.ExtRing.{ExtRing}
use Rattle.field.specs.Element.{Is}
use Rattle.field.specs.Cells.{cell, cells}
use Rattle.field.proofs.PointLaws.{cells_length, point_snoc}
use Rattle.multilinear.specs.Forms as Forms
use Rattle.multilinear.specs.Table as Table
use Rattle.columns.specs.Tables as Tables
use Rattle.columns.specs.TablesLaws as TablesLaws
use Rattle.columns.specs.Passes.{base_cell}

-- the words that sums start from
pub zero_is : E.ext 0 0 0 0 ≡ E.nil
unfolding E.nil E.emb E.ext B.nil
zero_is = refl

-- EQ

pub eq_turn : (x y : List ℕ) (i : ℕ) (e a b : E.Ext) {r : E.Ext} → e ≡ Table.eq ExtRing (cells x 0 i) (cells y 0 i) → a ≡ cell x i → b ≡ cell y i → r ≡ E.mul e (Forms.agree ExtRing a b)
    → r ≡ Table.eq ExtRing (cells x 0 (i + 1)) (cells y 0 (i + 1))
eq_turn x y i e a b {r} he ha hb hr =
    let g : r ≡ E.mul (Table.eq ExtRing (cells x 0 i) (cells y 0 i)) (Forms.agree ExtRing (cell x i) (cell y i)) = cc in
    g
    ∙ sym (TablesLaws.eq_snoc ExtRing (cells x 0 i) (cells y 0 i) (cell x i) (cell y i) (cells_length x 0 i ∙ sym (cells_length y 0 i)))
    ∙ ap₂ (Table.eq ExtRing) (sym (point_snoc x i)) (sym (point_snoc y i))
    ∙ ap (λ k. Table.eq ExtRing (cells x 0 k) (cells y 0 k)) (sym (add-one i))

-- HORNER'S RULE: the coefficients from i on

abbrev pub from : (n i : ℕ) (c : ℕ → E.Ext) (x : E.Ext) → E.Ext
from n i c x = Tables.polynomial ExtRing (n - i) (λ j. c (i + j)) x

pub horner_start : (n : ℕ) (c : ℕ → E.Ext) (x : E.Ext) → E.nil ≡ from n n c x
horner_start n c x =
    let z : n - n ≡ 0 = omega arith in
    sym (ap (λ k. Tables.polynomial ExtRing k (λ j. c (n + j)) x) z ∙ TablesLaws.polynomial_none ExtRing (λ j. c (n + j)) x)

pub horner_turn : (n i : ℕ) (c : ℕ → E.Ext) (x a e : E.Ext) {r : E.Ext} → 0 < i → i ≤ n → a ≡ from n i c x → e ≡ c (i - 1) → r ≡ E.add (E.mul a x) e → r ≡ from n (i - 1) c x
horner_turn n zero c x a e l u ha he hr = absurd (not-suc-le-zero l)
horner_turn n (suc k) c x a e {r} l u ha he hr =
    let q : suc k - 1 ≡ k = omega arith in
    let m : n - k ≡ suc (n - suc k) = omega arith in
    let z : k + 0 ≡ k = omega arith in
    let f : ◌≡◌ {A = ℕ → E.Ext} (λ j. c (suc k + j)) (λ j. c (k + suc j)) = fun_ext (λ j. ap c (next k j)) in
    let g : r ≡ E.add (E.mul (Tables.polynomial ExtRing (n - suc k) (λ j. c (k + suc j)) x) x) (c (k + 0)) =
    hr ∙ ap₂ (λ s t. E.add (E.mul s x) t) (ha ∙ ap (λ (h : ℕ → E.Ext). Tables.polynomial ExtRing (n - suc k) h x) f) (he ∙ ap c (q ∙ sym z)) in
    rw (q, m) (g ∙ TablesLaws.polynomial_step ExtRing (n - suc k) (λ j. c (k + j)) x)
  where
    next : (k j : ℕ) → suc k + j ≡ k + suc j
    next k j = omega arith

pub horner_end : (n i : ℕ) (c : ℕ → E.Ext) (x : E.Ext) {a : E.Ext} → i ≤ 0 → a ≡ from n i c x → a ≡ Tables.polynomial ExtRing n c x
horner_end n i c x l h =
    let z : i ≡ 0 = omega arith in
    let w : n - 0 ≡ n = omega arith in
    h ∙ ap (λ k. from n k c x) z ∙ ap₂ (λ k (f : ℕ → E.Ext). Tables.polynomial ExtRing k f x) w (fun_ext (λ j. ap c (back j)))
  where
    back : (j : ℕ) → 0 + j ≡ j
    back j = omega arith

-- SUMS

pub sum_none : (f : ℕ → E.Ext) → E.nil ≡ Table.sum ExtRing 0 f
unfolding Table.sum
sum_none f = refl

pub sum_turn : (f : ℕ → E.Ext) (n : ℕ) {a b r : E.Ext} → a ≡ Table.sum ExtRing n f → b ≡ f n → r ≡ E.add a b → r ≡ Table.sum ExtRing (n + 1) f
unfolding Table.sum
sum_turn f n ha hb hr = hr ∙ ap₂ E.add ha hb ∙ ap (λ k. Table.sum ExtRing k f) (sym (add-one n))

-- BASE ELEMENTS

pub base_cell_is : (ws : List ℕ) (i : ℕ) → get_or ws i 0 < P → Is (record { c0 = get_or ws i 0; c1 = 0; c2 = 0; c3 = 0 }) (base_cell ws i)
unfolding E.emb E.ext B.nil
base_cell_is ws i h = record { canon = record { c0 = h; c1 = omega arith; c2 = omega arith; c3 = omega arith }; value = refl }
