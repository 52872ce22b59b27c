-- What is said of a sponge tells it: of a start, and of a message's whole blocks absorbed, there is no second one.
-- Assumes nothing.
use Rattle.std.specs.Prelude.{◌≡◌, List, [], ℕ}
use Rattle.std.proofs.Common.{sym, ap, ◌∙◌, arith}
use Rattle.keccak.specs.StateLaws.{lanes_unique}
use Rattle.shake.specs.declared.Sponge.{Sponge}
use Rattle.shake.specs.Sponge.{absorbed}
use Rattle.shake.specs.Drawn.{Holds}

pub absorbed_unique : {s t : Sponge} {m : List ℕ} {n : ℕ} → Holds s m → s.blocks ≡ n → Holds t m → t.blocks ≡ n → s ≡ t
absorbed_unique {s} {t} {m} {n} h e k f =
    let blocks : s.blocks ≡ t.blocks = e ∙ sym f in
    let lanes : s.lanes ≡ t.lanes =
    lanes_unique (h.state ∙ ap (λ (j : ℕ). absorbed j m) e) (k.state ∙ ap (λ (j : ℕ). absorbed j m) f) in
    λ i. record { lanes = lanes i; blocks = blocks i }

pub start_unique : {s t : Sponge} → ((m : List ℕ) → Holds s m) → ((m : List ℕ) → Holds t m) → s ≡ t
start_unique {s} {t} h k =
    let e : s.blocks ≡ 0 = omega (arith, (h []).within) in
    let f : t.blocks ≡ 0 = omega (arith, (k []).within) in
    absorbed_unique (h []) e (k []) f
