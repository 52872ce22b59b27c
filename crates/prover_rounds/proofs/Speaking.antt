-- What the code says in a sub-round is the model's message: over eq as a constant times weights, s is a line times a parabola.
-- Assumes nothing.
use mathlib.Core.Path.{◌≡◌, sym, ◌∙◌, ap, ap₂}
use mathlib.Core.List.{List, [], ◌∷◌}
use Prim.Native.Nat.{ℕ, zero, suc, ◌+◌, ◌*◌, ◌^◌, ◌<◌}
use native.Mathlib.Nat.{add-zero}
use Rattle.ring.proofs.Quote.{ring, quote}
use Rattle.field.specs.Ext as E
use Rattle.field.specs.ExtRing.{ExtRing}
use Rattle.field.specs.Element.{dec}
use Rattle.field.specs.Cells.{cell}
use Rattle.multilinear.specs.Forms as Forms
use Rattle.multilinear.specs.Table as Table
use Rattle.multilinear.proofs.TableLaws as TableLaws
use Rattle.multilinear.specs.RoundSum as RoundSum
use Rattle.multilinear.specs.RoundSum.{Claims}
use Rattle.step.specs.Values.{minus, zip, line, numerator}
use Rattle.step.proofs.Pairs.{numerator_cross}
use Rattle.prover_layer.specs.declared.Turn.{Turn}
use Rattle.prover_layer.specs.Columns.{claims}
use Rattle.prover_layer.specs.Message.{parabola, said}
use Rattle.prover_layer.specs.Passes.{side_sum, differ, lead}

-- the numerator along the line through two claims
numerator_line : (z : E.Ext) (a b : Claims E.Ext) → numerator (zip (line z) a b) ≡ parabola (numerator a) (numerator b) (numerator (zip minus b a)) z
numerator_line z a b = ring ExtRing (z ∷ a.p0 ∷ a.q0 ∷ a.p1 ∷ a.q1 ∷ b.p0 ∷ b.q0 ∷ b.p1 ∷ b.q1 ∷ []) (search quote depth 40 fits 9999) tt

parabola_none : (z : E.Ext) → E.nil ≡ parabola E.nil E.nil E.nil z
parabola_none z = ring ExtRing (z ∷ []) (search quote depth 40 fits 9999) tt

parabola_more : (w a b d a' b' d' z : E.Ext) → E.add (parabola a b d z) (E.mul w (parabola a' b' d' z)) ≡ parabola (E.add a (E.mul w a')) (E.add b (E.mul w b')) (E.add d (E.mul w d')) z
parabola_more w a b d a' b' d' z = ring ExtRing (w ∷ a ∷ b ∷ d ∷ a' ∷ b' ∷ d' ∷ z ∷ []) (search quote depth 40 fits 9999) tt

sum_parabola : (n : ℕ) (w f g h : ℕ → E.Ext) (z : E.Ext) → Table.sum ExtRing n (λ y. E.mul (w y) (parabola (f y) (g y) (h y) z))
    ≡ parabola (Table.sum ExtRing n (λ y. E.mul (w y) (f y))) (Table.sum ExtRing n (λ y. E.mul (w y) (g y))) (Table.sum ExtRing n (λ y. E.mul (w y) (h y))) z
unfolding Table.sum
sum_parabola zero w f g h z = parabola_none z
sum_parabola (suc n) w f g h z = ap (λ a. E.add a (E.mul (w n) (parabola (f n) (g n) (h n) z))) (sum_parabola n w f g h z) ∙ parabola_more _ _ _ _ _ _ _ _

-- h, summed over all pairs of entries
h_is : (n : ℕ) (w : ℕ → E.Ext) (c : ℕ → Claims E.Ext) (z : E.Ext) → Table.sum ExtRing n (λ y. E.mul (w y) (numerator (RoundSum.folded ExtRing c z y)))
    ≡ parabola (Table.sum ExtRing n (λ y. E.mul (w y) (numerator (c (2 * y))))) (Table.sum ExtRing n (λ y. E.mul (w y) (numerator (c (2 * y + 1)))))
    (Table.sum ExtRing n (λ y. E.mul (w y) (numerator (differ c y)))) z
unfolding Table.fold
h_is n w c z = TableLaws.sum_cong ExtRing n (λ y. ap (E.mul (w y)) (numerator_line z (c (2 * y)) (c (2 * y + 1)))) ∙ sum_parabola n w _ _ _ z

-- eq's own variable taken out of the sum
s_is : (k : ℕ) (a x : E.Ext) (xs : List E.Ext) (c : ℕ → Claims E.Ext) (z : E.Ext) → RoundSum.s ExtRing k E.nil (λ i. E.mul a (Table.weight ExtRing (x ∷ xs) i)) c z
    ≡ E.mul (E.mul a (Forms.agree ExtRing x z)) (Table.sum ExtRing (2 ^ k) (λ y. E.mul (Table.weight ExtRing xs y) (numerator (RoundSum.folded ExtRing c z y))))
unfolding RoundSum.s RoundSum.total
s_is k a x xs c z =
    TableLaws.sum_cong ExtRing (2 ^ k) (λ y.
    ap₂ E.mul (TableLaws.fold_weight ExtRing a x z xs y) (sym (numerator_cross (RoundSum.folded ExtRing c z y))) ∙ ExtRing.mul_assoc _ _ _)
    ∙ TableLaws.sum_mul ExtRing (2 ^ k) _ _

-- the cells of eq as weights, under a sum
weighed : (ws : List ℕ) (at k half : ℕ) (xs : List E.Ext) (f g : ℕ → E.Ext) → half ≡ 2 ^ k → ((y : ℕ) → y < half → cell ws (at + y) ≡ Table.weight ExtRing xs y) → ((y : ℕ) → f y ≡ g y)
    → Table.sum ExtRing half (λ y. E.mul (cell ws (at + y)) (f y)) ≡ Table.sum ExtRing (2 ^ k) (λ y. E.mul (Table.weight ExtRing xs y) (g y))
weighed ws at k half xs f g e h q =
    TableLaws.sum_below ExtRing half _ _ (λ y l. ap₂ E.mul (h y l) (q y)) ∙ ap (λ n. Table.sum ExtRing n (λ y. E.mul (Table.weight ExtRing xs y) (g y))) e

pub said_true : (ws : List ℕ) (at b k half : ℕ) (t : Turn) (xs : List E.Ext) → half ≡ 2 ^ k → ((y : ℕ) → y < half → cell ws (at + y) ≡ Table.weight ExtRing xs y)
    → dec t.h0 ≡ side_sum ws at b 0 half → dec t.h1 ≡ side_sum ws at b 1 half
    → (z : E.Ext) → said t (lead ws at b half) z ≡ RoundSum.s ExtRing k E.nil (λ i. E.mul (dec t.c) (Table.weight ExtRing (dec t.x ∷ xs) i)) (claims ws b) z
said_true ws at b k half t xs e h e0 e1 z =
    let f0 = e0 ∙ weighed ws at k half xs _ _ e h (λ y. ap (λ i. numerator (claims ws b i)) (add-zero (2 * y))) in
    let f1 = e1 ∙ weighed ws at k half xs _ _ e h (λ y. λ i. numerator (claims ws b (2 * y + 1))) in
    let fl = weighed ws at k half xs _ _ e h (λ y. λ i. numerator (differ (claims ws b) y)) in
    ap (E.mul (E.mul (dec t.c) (Forms.agree ExtRing (dec t.x) z))) ((λ i. parabola (f0 i) (f1 i) (fl i) z) ∙ sym (h_is (2 ^ k) (Table.weight ExtRing xs) (claims ws b) z))
    ∙ sym (s_is k (dec t.c) (dec t.x) xs (claims ws b) z)
