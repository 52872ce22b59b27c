-- A number with one bit set is a power of two, and no other is.
-- Assumes nothing.
use Rattle.std.specs.Prelude.{◌≡◌, refl, ℕ, zero, suc, ◌+◌, ◌-◌, ◌*◌, ◌^◌, ◌<◌, ◌≤◌, eqb}
use Rattle.std.specs.Int.{is_power_of_two}
use Rattle.std.specs.Int.Count.{ones}
use Rattle.std.proofs.Common.{sym, ◌∙◌, ap, arith, ne_eqb}
use Rattle.std.proofs.Math.Nat.{two-pow-succ}
use Rattle.std.proofs.lemmas.Nat.{leading_top, ones_cat, zero_from_ones}
use Rattle.refusal.specs.Powers.{any_power, power_of_two}
use Rattle.refusal.specs.PowerLaws.{power_yes, power_between}

-- 2 ^ j and r more, below the next power
above : (j r : ℕ) → r < 2 ^ j → ones (2 ^ j + r) ≡ 1 + ones r
unfolding ones
above j r h = ap ones (let e : 2 ^ j + r ≡ 1 * 2 ^ j + r = omega arith in e) ∙ ones_cat j 1 r h

one_bit : (j r : ℕ) → r < 2 ^ j → eqb (ones (2 ^ j + r)) 1 ≡ power_of_two (2 ^ j + r)
unfolding ones
one_bit j zero h = let e : 2 ^ j + 0 ≡ 2 ^ j = omega arith in ap (λ k. eqb k 1) (above j 0 h) ∙ sym (power_yes j (2 ^ j + 0) (sym e))
one_bit j (suc r) h =
    let more : ones (2 ^ j + suc r) ≡ 1 → ⊥ = λ e. let z = zero_from_ones (suc r) (omega (arith, e, above j (suc r) h)) in omega arith in
    ne_eqb _ 1 more ∙ sym (power_between j (2 ^ j + suc r) (omega arith) (omega arith))

rest : (j n : ℕ) → 2 ^ j ≤ n → n < 2 ^ suc j → (r : ℕ) × (r < 2 ^ j) × (n ≡ 2 ^ j + r)
rest j n h l = let p = two-pow-succ j in (n - 2 ^ j, omega arith, omega arith)

pub bits_say : (n : ℕ) → n < 2 ^ 64 → is_power_of_two n ≡ power_of_two n
unfolding any_power ones
bits_say zero h = refl
bits_say (suc m) h =
    let t = leading_top 64 (suc m) (omega arith) h in
    let r = rest t.0 (suc m) t.2 t.3 in
    ap (λ k. eqb (ones k) 1) r.2 ∙ one_bit t.0 r.0 r.1 ∙ ap power_of_two (sym r.2)
