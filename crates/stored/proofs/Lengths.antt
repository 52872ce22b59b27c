-- How long a stored proof is: 22 + 65 n + 24 n (n - 1) bytes for n rounds, 23 for no rows.
-- Assumes nothing.
use Rattle.std.specs.Prelude.{◌≡◌, refl, Bool, List, [], ◌∷◌, ℕ, zero, suc, ◌+◌, ◌*◌, ◌-◌, ◌≤◌, length}
use Rattle.std.proofs.Common.{sym, ap, arith, length-append}
use Rattle.field.specs.declared.Ext.{Ext}
use Rattle.gkr.specs.Run.{Cubic, Proof}
use Rattle.wire.specs.Bytes.{bytes_of}
use Rattle.stored.specs.Layout.{claims_words, cubics_words, entries_bytes, layout}
use Rattle.stored.proofs.RoundTrip.{claims_size, cubics_size}
use Rattle.stored.specs.Lengths.{up_from, lengths, Rounds, proof_size}

differ : (x : ℕ) (xs : List ℕ) → x ∷ xs ≡ [] → ⊥
differ x xs e = let l = ap length e in omega arith

entries_size : (r h : ℕ) (mss : List (List (Cubic Ext))) → lengths mss ≡ up_from r h → length (entries_bytes mss) + 24 * h ≡ h + 48 * (r * h) + 24 * (h * h)
unfolding up_from lengths entries_bytes
entries_size r zero [] e = omega arith
entries_size r zero (ms ∷ mss) e = absurd (differ (length ms) (lengths mss) e)
entries_size r (suc h) [] e = absurd (differ r (up_from (suc r) h) (sym e))
entries_size r (suc h) (ms ∷ mss) e =
    let a : length ms ≡ r = cc in
    let b : lengths mss ≡ up_from (suc r) h = cc in
    let i = entries_size (suc r) h mss b in
    let l = length-append (bytes_of (cubics_words ms)) (entries_bytes mss) in
    omega (arith, i, l, cubics_size ms, a)

layout_size : (s : Bool) (π : Proof Ext) → length (layout s π) ≡ 23 + 64 * length π.claims + length (entries_bytes π.polys)
unfolding layout bytes_of
layout_size s π =
    let l = length-append (bytes_of (claims_words π.claims)) (length π.polys ∷ entries_bytes π.polys) in
    omega (arith, l, claims_size π.claims)

pub rounds_size : (s : Bool) (n : ℕ) (π : Proof Ext) → 1 ≤ n → Rounds n π → length (layout s π) ≡ proof_size n
rounds_size s n π h p =
    let m = n - 1 in
    let e : n ≡ suc m = omega arith in
    let z = entries_size 1 m π.polys p.subrounds in
    let w : n * m ≡ suc m * m = ap (λ k. k * m) e in
    omega (arith, layout_size s π, z, p.layers, w)

-- the smallest two, and the largest
pub sizes : (proof_size 1 ≡ 87) × (proof_size 2 ≡ 200) × (proof_size 10 ≡ 2832)
sizes = (refl, refl, refl)

-- the proof of no rows
pub empty_size : (s : Bool) (e : Ext) → length (layout s (record { q0 = e; claims = []; polys = [] })) ≡ 23
unfolding layout bytes_of claims_words entries_bytes
empty_size s e = refl
