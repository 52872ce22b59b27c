-- Words and elements are one another's inverses on canonical words, so no second answer fits.
-- Assumes nothing.
use Rattle.std.specs.Prelude.{◌≡◌, refl, Bool, true, not, ◌&&◌, ℕ, ◌<◌, eqb, ltb}
use Rattle.std.proofs.Common.{sym, ◌∙◌, ap, ap₂, subst, mod-eq_of_lt, arith, ltb-true, lt-ltb}
use Rattle.field.specs.Base as B
use Rattle.field.specs.Base.{F, P, of}
use Rattle.field.specs.BaseRing.{val_of, val_lt, of_val}
use Rattle.field.specs.Ext as E
use Rattle.field.specs.ExtRing.{ext_path, arithmetic, both}
use Rattle.field.specs.declared.Base.{Base}
use Rattle.field.specs.declared.Ext.{Ext}
use Rattle.field.specs.BaseElement as W
use Rattle.field.specs.Element.{dec, enc, Canon, Is, canon_words, same_words}

-- ---- one word
pub word_of : (n : ℕ) → n < P → (of n).val ≡ n
word_of n h = val_of n ∙ mod-eq_of_lt h

-- a canonical word that stands for x is the word of x
pub word_answer : (n : ℕ) {x : F} → n < P → of n ≡ x → n ≡ x.val
word_answer n h e = sym (word_of n h) ∙ ap (λ a. a.val) e

-- no second word fits
pub word_unique : {m n : ℕ} {x : F} → (m < P) × (of m ≡ x) → (n < P) × (of n ≡ x) → m ≡ n
word_unique {m} {n} h k = word_answer m h.0 h.1 ∙ sym (word_answer n k.0 k.1)

-- a canonical word that stands for x is the answer x; what is known of x goes into it
pub base_answer : {n : ℕ} {x y : F} → (n < P) × (of n ≡ x) → x ≡ y → ◌≡◌ {A = Base} (record { value = n }) (W.enc y)
base_answer {n} h e = λ i. record { value = word_answer n h.0 (h.1 ∙ e) i }

pub base_dec_enc : (x : F) → W.dec (W.enc x) ≡ x
base_dec_enc x = of_val x

pub base_enc_dec : (b : Base) → b.value < P → W.enc (W.dec b) ≡ b
base_enc_dec b h = λ i. record { value = word_of b.value h i }

pub base_canonical : (b : Base) → ltb b.value P ≡ true → W.enc (W.dec b) ≡ b
base_canonical b e = base_enc_dec b (ltb-true b.value P e)

-- the constants of the base
pub base_zero : ◌≡◌ {A = Base} (record { value = 0 }) (W.enc B.nil)
unfolding arithmetic
base_zero = refl

pub base_one : ◌≡◌ {A = Base} (record { value = 1 }) (W.enc B.one)
unfolding arithmetic
base_one = refl

pub base_two : ◌≡◌ {A = Base} (record { value = 2 }) (W.enc (B.add B.one B.one))
unfolding arithmetic
base_two = refl

pub base_half : ◌≡◌ {A = Base} (record { value = 1006632961 }) (W.enc B.half)
unfolding arithmetic
base_half = refl

pub base_sixth : ◌≡◌ {A = Base} (record { value = 1677721601 }) (W.enc B.sixth)
unfolding arithmetic
base_sixth = refl

-- ---- four words
pub dec_enc : (x : E.Ext) → dec (enc x) ≡ x
unfolding E.ext
dec_enc x = ext_path (of_val x.c0) (of_val x.c1) (of_val x.c2) (of_val x.c3)

pub canon_enc : (x : E.Ext) → Canon (enc x)
canon_enc x = record { c0 = val_lt x.c0; c1 = val_lt x.c1; c2 = val_lt x.c2; c3 = val_lt x.c3 }

pub enc_dec : {r : Ext} → Canon r → enc (dec r) ≡ r
unfolding E.ext
enc_dec {r} h = λ i. record { c0 = word_of r.c0 h.c0 i; c1 = word_of r.c1 h.c1 i; c2 = word_of r.c2 h.c2 i; c3 = word_of r.c3 h.c3 i }

-- `Is r x` says that r is the words of x, and nothing else
pub is_enc : (x : E.Ext) → Is (enc x) x
is_enc x = record { canon = canon_enc x; value = dec_enc x }

pub enc_of_is : {r : Ext} {x : E.Ext} → Is r x → r ≡ enc x
enc_of_is h = sym (enc_dec h.canon) ∙ ap enc h.value

pub is_of_enc : {r : Ext} {x : E.Ext} → r ≡ enc x → Is r x
is_of_enc {r} {x} e = subst (λ (s : Ext). Is s x) (sym e) (is_enc x)

-- no second answer fits
pub is_unique : {r s : Ext} {x : E.Ext} → Is r x → Is s x → r ≡ s
is_unique h k = enc_of_is h ∙ sym (enc_of_is k)

-- equal words, equal elements
pub enc_inj : {x y : E.Ext} → enc x ≡ enc y → x ≡ y
enc_inj {x} {y} e = sym (dec_enc x) ∙ ap dec e ∙ dec_enc y

-- what is known of x goes into the answer
pub is_eq : {r : Ext} {x y : E.Ext} → Is r x → x ≡ y → Is r y
is_eq h e = record { canon = h.canon; value = h.value ∙ e }

pub answer : {r : Ext} {x y : E.Ext} → Is r x → x ≡ y → r ≡ enc y
answer h e = enc_of_is (is_eq h e)

-- ---- the constants
small : (n : ℕ) → n < P → Canon (record { c0 = n; c1 = 0; c2 = 0; c3 = 0 })
small n h = record { c0 = h; c1 = omega arith; c2 = omega arith; c3 = omega arith }

pub zero_is : Is (record { c0 = 0; c1 = 0; c2 = 0; c3 = 0 }) E.nil
unfolding arithmetic
zero_is = record { canon = small 0 (omega arith); value = refl }

pub one_is : Is (record { c0 = 1; c1 = 0; c2 = 0; c3 = 0 }) E.one
unfolding arithmetic
one_is = record { canon = small 1 (omega arith); value = refl }

pub two_is : Is (record { c0 = 2; c1 = 0; c2 = 0; c3 = 0 }) E.two
unfolding arithmetic
two_is = record { canon = small 2 (omega arith); value = refl }

pub one_and_one_is : Is (record { c0 = 2; c1 = 0; c2 = 0; c3 = 0 }) (E.add E.one E.one)
unfolding arithmetic
one_and_one_is = record { canon = small 2 (omega arith); value = refl }

pub half_is : Is (record { c0 = 1006632961; c1 = 0; c2 = 0; c3 = 0 }) E.half
unfolding arithmetic
half_is = record { canon = small 1006632961 (omega arith); value = refl }

pub sixth_is : Is (record { c0 = 1677721601; c1 = 0; c2 = 0; c3 = 0 }) E.sixth
unfolding arithmetic
sixth_is = record { canon = small 1677721601 (omega arith); value = refl }

-- ---- the tests
pub canon_true : (e : Ext) → canon_words e ≡ true → Canon e
unfolding canon_words
canon_true e h =
    let p = both _ _ h in
    let q = both _ _ p.1 in
    let r = both _ _ q.1 in
    record { c0 = ltb-true e.c0 P p.0; c1 = ltb-true e.c1 P q.0; c2 = ltb-true e.c2 P r.0; c3 = ltb-true e.c3 P r.1 }

pub canon_of : (e : Ext) → Canon e → canon_words e ≡ true
unfolding canon_words
canon_of e h = rw (lt-ltb e.c0 P h.c0, lt-ltb e.c1 P h.c1, lt-ltb e.c2 P h.c2, lt-ltb e.c3 P h.c3)

-- on words of elements `==` is the test on elements
pub same_of_enc : (x y : E.Ext) → (eqb x.c0.val y.c0.val && (eqb x.c1.val y.c1.val && (eqb x.c2.val y.c2.val && eqb x.c3.val y.c3.val))) ≡ E.same x y
unfolding E.same
same_of_enc x y = refl

-- what `a == b`, which is derived, answers is the test on words
pub equal_words : (a b : Ext) {r : Bool} → r ≡ (eqb a.c0 b.c0 && (eqb a.c1 b.c1 && (eqb a.c2 b.c2 && eqb a.c3 b.c3))) → r ≡ same_words a b
unfolding same_words
equal_words a b e = e

-- the same of `a != b`
pub differ_words : (a b : Ext) {r : Bool} → r ≡ not (eqb a.c0 b.c0 && (eqb a.c1 b.c1 && (eqb a.c2 b.c2 && eqb a.c3 b.c3))) → not (same_words a b) ≡ r
unfolding same_words
differ_words a b e = sym e

-- on words of elements the test on words is the test on elements
pub same_enc : (x y : E.Ext) → same_words (enc x) (enc y) ≡ E.same x y
unfolding same_words E.same
same_enc x y = refl

pub same_is : {a b : Ext} {x y : E.Ext} → Is a x → Is b y → same_words a b ≡ E.same x y
unfolding same_words E.same
same_is h k = ap₂ same_words (enc_of_is h) (enc_of_is k)
