-- The step mappings as the code has them: the lanes one by one, each by the answer of the call that makes it.
-- Assumes nothing.
use mathlib.Core.Path.{◌≡◌, ◌∙◌}
use mathlib.Core.List.{List, [], ◌∷◌}
use Prim.Native.Nat.{ℕ}
use lib.Bits.{bit_xor}
use lib.ListN.{get_or}
use Rattle.keccak.specs.Keccak.{column, rot, spread, theta, rho, pi}

pub theta_with : (a : List ℕ) {t : List ℕ} {r0 r1 r2 r3 r4 : ℕ}
    → r1 ≡ rot (column a 1) 1 → r2 ≡ rot (column a 2) 1 → r3 ≡ rot (column a 3) 1 → r4 ≡ rot (column a 4) 1 → r0 ≡ rot (column a 0) 1
    → t ≡ spread a (bit_xor (column a 4) r1 ∷ bit_xor (column a 0) r2 ∷ bit_xor (column a 1) r3 ∷ bit_xor (column a 2) r4 ∷ bit_xor (column a 3) r0 ∷ [])
    → t ≡ theta a
unfolding theta
theta_with a e1 e2 e3 e4 e0 f =
    f
    ∙ (λ i.
    spread a
    (bit_xor (column a 4) (e1 i) ∷ bit_xor (column a 0) (e2 i) ∷ bit_xor (column a 1) (e3 i) ∷ bit_xor (column a 2) (e4 i) ∷ bit_xor (column a 3) (e0 i) ∷ []))

-- the lanes after rho and pi
pub moved_with : (a : List ℕ) {r1 r2 r3 r4 r5 r6 r7 r8 r9 r10 r11 r12 r13 r14 r15 r16 r17 r18 r19 r20 r21 r22 r23 r24 : ℕ}
    → r1 ≡ rot (get_or a 6 0) 44
    → r2 ≡ rot (get_or a 12 0) 43
    → r3 ≡ rot (get_or a 18 0) 21
    → r4 ≡ rot (get_or a 24 0) 14
    → r5 ≡ rot (get_or a 3 0) 28
    → r6 ≡ rot (get_or a 9 0) 20
    → r7 ≡ rot (get_or a 10 0) 3
    → r8 ≡ rot (get_or a 16 0) 45
    → r9 ≡ rot (get_or a 22 0) 61
    → r10 ≡ rot (get_or a 1 0) 1
    → r11 ≡ rot (get_or a 7 0) 6
    → r12 ≡ rot (get_or a 13 0) 25
    → r13 ≡ rot (get_or a 19 0) 8
    → r14 ≡ rot (get_or a 20 0) 18
    → r15 ≡ rot (get_or a 4 0) 27
    → r16 ≡ rot (get_or a 5 0) 36
    → r17 ≡ rot (get_or a 11 0) 10
    → r18 ≡ rot (get_or a 17 0) 15
    → r19 ≡ rot (get_or a 23 0) 56
    → r20 ≡ rot (get_or a 2 0) 62
    → r21 ≡ rot (get_or a 8 0) 55
    → r22 ≡ rot (get_or a 14 0) 39
    → r23 ≡ rot (get_or a 15 0) 41
    → r24 ≡ rot (get_or a 21 0) 2
    → get_or a 0 0 ∷ r1 ∷ r2 ∷ r3 ∷ r4 ∷ r5 ∷ r6 ∷ r7 ∷ r8 ∷ r9 ∷ r10 ∷ r11 ∷ r12 ∷ r13 ∷ r14 ∷ r15 ∷ r16 ∷ r17 ∷ r18 ∷ r19 ∷ r20 ∷ r21 ∷ r22 ∷ r23 ∷ r24 ∷ [] ≡ pi (rho a)
unfolding rho pi
moved_with a e1 e2 e3 e4 e5 e6 e7 e8 e9 e10 e11 e12 e13 e14 e15 e16 e17 e18 e19 e20 e21 e22 e23 e24 =
    λ i.
    get_or a 0 0 ∷ e1 i ∷ e2 i ∷ e3 i ∷ e4 i ∷ e5 i ∷ e6 i ∷ e7 i ∷ e8 i ∷ e9 i ∷ e10 i ∷ e11 i ∷ e12 i ∷ e13 i ∷ e14 i ∷ e15 i ∷ e16 i ∷ e17 i ∷ e18 i ∷ e19 i ∷ e20 i ∷ e21 i ∷ e22 i ∷ e23 i ∷ e24 i ∷ []
