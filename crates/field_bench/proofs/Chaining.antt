-- A chain of products: the start, one product more, the end.
-- Assumes nothing.
use mathlib.Core.Path.{◌≡◌, sym, ◌∙◌, ap, ap₂}
use mathlib.Core.List.{[], ◌∷◌}
use Prim.Native.Nat.{ℕ, ◌+◌}
use native.Mathlib.Numerals.{add-one}
use Rattle.ring.specs.Ring.{pow}
use Rattle.ring.specs.RingLaws.{pow_zero, pow_suc}
use Rattle.ring.proofs.Quote.{ring, quote}
use Rattle.field.specs.Ext as E
use Rattle.field.specs.ExtRing.{ExtRing}
use Rattle.field.specs.declared.Ext.{Ext}
use Rattle.field.specs.Element.{dec, enc, Is}
use Rattle.field.specs.ElementLaws.{is_of_enc, is_eq}

pub start : (s t : E.Ext) {x : Ext} → x ≡ enc s → Is x (E.mul s (pow ExtRing t 0))
start s t e = is_eq (is_of_enc e) (sym (ap (E.mul s) (pow_zero ExtRing t) ∙ ExtRing.mul_one s))

pub next : (s t : E.Ext) (i : ℕ) {x y r : Ext} → Is x (E.mul s (pow ExtRing t i)) → Is y t → Is r (E.mul (dec x) (dec y)) → Is r (E.mul s (pow ExtRing t (i + 1)))
next s t i hx hy hr =
    let p = pow ExtRing t i in
    let swap : E.mul (E.mul s p) t ≡ E.mul s (E.mul t p) = ring ExtRing (s ∷ p ∷ t ∷ []) (search quote) tt in
    is_eq hr (ap₂ E.mul hx.value hy.value ∙ swap ∙ ap (E.mul s) (sym (pow_suc ExtRing t i) ∙ ap (pow ExtRing t) (sym (add-one i))))
