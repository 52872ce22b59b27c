-- No second answer fits a list at a place of a text, or a filled front.
-- Assumes nothing.
use Rattle.std.specs.Prelude.{◌≡◌, ℕ, List, ◌++◌, drop, replicate}
use Rattle.std.proofs.Common.{sym, ◌∙◌, ap}
use Rattle.cases.specs.Text.{Placed, Listed, number_at, listed, ListAt, Filled}

pub list_unique : {A : Type 0} {f : ℕ → A} {text : List ℕ} {at : ℕ} {ws m n : List A} {r s : Listed} → ListAt f text at ws m r → ListAt f text at ws n s → (r ≡ s) × (m ≡ n)
list_unique {A} {f} {text} {at} {ws} {m} {n} {r} {s} h k =
    let c : r.count ≡ s.count = h.count ∙ sym k.count in
    let e : ◌≡◌ {A = Placed A} (record { words = m; at = r.at }) (record { words = n; at = s.at }) = h.placed ∙ ap (listed f text (number_at text at).at ws 0) c ∙ sym k.placed in
    ((λ i. record { count = c i; at = (e i).at }), ap (λ (p : Placed A). p.words) e)

pub filled_unique : {A : Type 0} {v : A} {n : ℕ} {ws l m : List A} {r s : ℕ} → Filled v n ws l r → Filled v n ws m s → (r ≡ s) × (l ≡ m)
filled_unique {A} {v} {n} {ws} {l} {m} {r} {s} h k =
    let c : r ≡ s = h.count ∙ sym k.count in
    (c, h.filled ∙ ap (λ (a : ℕ). replicate a v ++ drop a ws) c ∙ sym k.filled)
