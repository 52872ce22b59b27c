-- A line times a parabola, at 1, 2 and 3.
-- Assumes nothing.
use mathlib.Core.Path.{◌≡◌, ◌∙◌, ap₂, subst}
use mathlib.Core.List.{[], ◌∷◌}
use Rattle.ring.proofs.Quote.{ring, quote}
use Rattle.field.specs.Ext.{Ext, add, mul, one}
use Rattle.field.specs.ExtRing.{ExtRing}
use Rattle.field.specs.Element.{dec, Is}
use Rattle.field.specs.declared.Ext.{Ext as ExtW}
use Rattle.multilinear.specs.Forms as Forms
use Rattle.step.specs.declared.Three.{Three}
use Rattle.step.specs.Values.{IsThree, minus, two, three}
use Rattle.prover_layer.specs.declared.Turn.{Turn}
use Rattle.prover_layer.specs.Message.{parabola, said}

-- THE LINE

line_1 : (c x : Ext) → mul c x ≡ mul c (Forms.agree ExtRing x one)
line_1 c x = ring ExtRing (c ∷ x ∷ []) (search quote depth 40 fits 9999) tt

line_2 : (c x : Ext) → add (mul c x) (minus (add (mul c x) (mul c x)) c) ≡ mul c (Forms.agree ExtRing x two)
line_2 c x = ring ExtRing (c ∷ x ∷ []) (search quote depth 40 fits 9999) tt

line_3 : (c x : Ext) → let d = minus (add (mul c x) (mul c x)) c in add (add (mul c x) d) d ≡ mul c (Forms.agree ExtRing x three)
line_3 c x = ring ExtRing (c ∷ x ∷ []) (search quote depth 40 fits 9999) tt

pub line_steps : (c x : Ext) {s1 u d s2 s3 : Ext} → s1 ≡ mul c x → u ≡ add s1 s1 → d ≡ minus u c → s2 ≡ add s1 d → s3 ≡ add s2 d
    → (s1 ≡ mul c (Forms.agree ExtRing x one)) × (s2 ≡ mul c (Forms.agree ExtRing x two)) × (s3 ≡ mul c (Forms.agree ExtRing x three))
line_steps c x e1 eu ed e2 e3 = (cc (line_1 c x), cc (line_2 c x), cc (line_3 c x))

-- THE PARABOLA

pub parabola_1 : (a b l : Ext) → b ≡ parabola a b l one
parabola_1 a b l = ring ExtRing (a ∷ b ∷ l ∷ []) (search quote depth 40 fits 9999) tt

parabola_2 : (a b l : Ext) → add (add b (minus b a)) (add l l) ≡ parabola a b l two
parabola_2 a b l = ring ExtRing (a ∷ b ∷ l ∷ []) (search quote depth 40 fits 9999) tt

parabola_3 : (a b l : Ext) → add (add (add (add (add b (minus b a)) (add l l)) (minus b a)) (add l l)) (add l l) ≡ parabola a b l three
parabola_3 a b l = ring ExtRing (a ∷ b ∷ l ∷ []) (search quote depth 40 fits 9999) tt

pub parabola_steps : (a b l : Ext) {d t u s2 v w s3 : Ext} → d ≡ minus b a → t ≡ add l l → u ≡ add b d → s2 ≡ add u t → v ≡ add s2 d → w ≡ add v t → s3 ≡ add w t
    → (s2 ≡ parabola a b l two) × (s3 ≡ parabola a b l three)
parabola_steps a b l ed et eu e2 ev ew e3 = (cc (parabola_2 a b l), cc (parabola_3 a b l))

-- THE PRODUCT

pub said_is : (t : Turn) (v z : Ext) (r l h : ExtW) → dec l ≡ mul (dec t.c) (Forms.agree ExtRing (dec t.x) z) → dec h ≡ parabola (dec t.h0) (dec t.h1) v z
    → Is r (mul (dec l) (dec h)) → Is r (said t v z)
said_is t v z r l h el eh i = record { canon = i.canon; value = i.value ∙ ap₂ mul el eh }

pub said_by : (t : Turn) {u v : Ext} {r : Three} → u ≡ v → IsThree r (said t u one) (said t u two) (said t u three) → IsThree r (said t v one) (said t v two) (said t v three)
said_by t {u} {v} {r} e h = subst (λ u. IsThree r (said t u one) (said t u two) (said t u three)) e h
