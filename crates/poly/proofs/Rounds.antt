-- A sub-round's polynomial: the sums over pairs of entries, and the constant of one entry.
-- Assumes nothing.
use Rattle.std.specs.Prelude.{Result, Ok}
use mathlib.Core.Path.{◌≡◌, sym, ◌∙◌, ap}
use mathlib.Core.List.{List, [], ◌∷◌}
use Prim.Native.Nat.{ℕ, zero, suc, ◌/◌, ◌^◌}
use native.Mathlib.Nat.{two-pow-succ, one-le-pow}
use native.Mathlib.Omega.{arith}
use Rattle.ring.proofs.Quote.{ring, quote}
use Rattle.field.specs.Ext as E
use Rattle.field.specs.ExtRing.{ExtRing}
use Rattle.field.specs.ElementLaws.{enc_of_is, is_eq}
use Rattle.field.specs.Cells.{cell}
use Rattle.refusal.specs.declared.Refusal.{Refusal}
use Rattle.multilinear.specs.Table as Table
use Rattle.multilinear.specs.RoundSum as RoundSum
use Rattle.multilinear.specs.RoundSum.{Claims}
use Rattle.step.specs.declared.Three.{Three}
use Rattle.step.specs.Values.{IsThree, two, three}
use Rattle.columns.specs.Passes.{summand_of, Sums, Constant}
use Rattle.poly.specs.Folds.{round_at, rounds}

values : {o : Result (Unit {0}) Refusal} {r : Three} (s : E.Ext → E.Ext) → o ≡ Ok tt → IsThree r (s E.one) (s two) (s three) → Ok r ≡ rounds o s
values s e h =
    ap Ok (λ i. record { s1 = enc_of_is h.s1 i; s2 = enc_of_is h.s2 i; s3 = enc_of_is h.s3 i }) ∙ sym (ap (λ o. rounds o s) e)

-- one entry, no variable
alone : (a : E.Ext) → E.add E.nil a ≡ a
alone a = ring ExtRing (a ∷ []) (search quote) tt

constant_at : (v : ℕ) (l : E.Ext) (eq : ℕ → E.Ext) (pq : ℕ → Claims E.Ext) (x : E.Ext) → 1 ≡ 2 ^ v → E.mul (eq 0) (RoundSum.cross ExtRing l (pq 0)) ≡ round_at v l eq pq x
unfolding round_at RoundSum.total Table.sum
constant_at zero l eq pq x h = sym (alone (E.mul (eq 0) (RoundSum.cross ExtRing l (pq 0))))
constant_at (suc k) l eq pq x h = absurd (omega (arith, two-pow-succ k, one-le-pow k 2 (omega arith)))

pub constant_round : {o : Result (Unit {0}) Refusal} {r : Three} (n v : ℕ) (l : E.Ext) (eq : List ℕ) (pq : ℕ → Claims E.Ext) → o ≡ Ok tt → n ≡ 1 → n ≡ 2 ^ v → Constant r eq pq l
    → Ok r ≡ rounds o (round_at v l (cell eq) pq)
constant_round n v l eq pq e one h c =
    let z : 1 ≡ 2 ^ v = omega (arith, h) in
    values (round_at v l (cell eq) pq) e (record {
      s1 = is_eq c.s1 (constant_at v l (cell eq) pq E.one z);
      s2 = is_eq c.s2 (constant_at v l (cell eq) pq two z);
      s3 = is_eq c.s3 (constant_at v l (cell eq) pq three z);
    })

-- more entries: half as many pairs
sum_at : (v m n : ℕ) (l : E.Ext) (eq : List ℕ) (pq : ℕ → Claims E.Ext) (x : E.Ext) → (n ≡ 1 → ⊥) → n ≡ 2 ^ v → m ≡ n / 2
    → Table.sum ExtRing m (summand_of eq pq l x) ≡ round_at v l (cell eq) pq x
unfolding round_at RoundSum.s RoundSum.total
sum_at zero m n l eq pq x one h q = absurd (one h)
sum_at (suc k) m n l eq pq x one h q =
    let z : m ≡ 2 ^ k = omega (arith, two-pow-succ k) in
    ap (λ j. Table.sum ExtRing j (summand_of eq pq l x)) z

pub sums_round : {o : Result (Unit {0}) Refusal} {r : Three} (n m v : ℕ) (l : E.Ext) (eq : List ℕ) (pq : ℕ → Claims E.Ext) → o ≡ Ok tt → (n ≡ 1 → ⊥) → n ≡ 2 ^ v → m ≡ n / 2 → Sums r m eq pq l
    → Ok r ≡ rounds o (round_at v l (cell eq) pq)
sums_round n m v l eq pq e one h q c =
    values (round_at v l (cell eq) pq) e (record {
      s1 = is_eq c.s1 (sum_at v m n l eq pq E.one one h q);
      s2 = is_eq c.s2 (sum_at v m n l eq pq two one h q);
      s3 = is_eq c.s3 (sum_at v m n l eq pq three one h q);
    })
