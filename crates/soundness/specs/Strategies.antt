-- Interactive provers: a message, and how it goes on at each challenge. Their lists have the right lengths.
-- Assumes nothing.
use Prim.Native.Nat.{ℕ, zero, suc}
use mathlib.Core.List.{List, [], ◌∷◌}
use Rattle.std.specs.Prelude.{get_or, drop}
use Rattle.ring.specs.Field.{Field}
use Rattle.multilinear.specs.RoundSum.{Claims}
use Rattle.gkr.specs.Run.{Cubic, Proof}

module _ (F : Field) where
  open F.ring use {carrier as R, nil}

  -- k sub-rounds, each a message and what comes after its rho, and then B
  abbrev pub Sub : (B : Type 0) (k : ℕ) → Type 0
  Sub B zero = B
  Sub B (suc k) = Cubic R × (R → Sub B k)

  -- h layers, the first of them with r sub-rounds: after lambda the sub-rounds, then the claims, and what comes after mu
  abbrev pub Layers : (h r : ℕ) → Type 0
  Layers zero r = Unit {0}
  Layers (suc h) r = R → Sub (Claims R × (R → Layers h (suc r))) r

  -- suc m rounds
  pub record Strategy (m : ℕ) : Type 0 where
    pub q0 : R
    pub claims : Claims R
    pub next : R → Layers m 1

  -- THE PROOF that is sent against the challenges cs

  -- what k sub-rounds send, what they end with, and the challenges left
  pub record Told (B : Type 0) : Type 0 where
    pub polys : List (Cubic R)
    pub next : B
    pub left : List R

  unfoldable pub tell : {B : Type 0} (k : ℕ) → Sub B k → (cs : List R) → Told B
  tell zero σ cs = record { polys = []; next = σ; left = cs }
  tell (suc k) σ cs = let P = tell k (σ.1 (get_or cs 0 nil)) (drop 1 cs) in record { polys = σ.0 ∷ P.polys; next = P.next; left = P.left }

  -- what the layers send
  pub record Lines : Type 0 where
    pub claims : List (Claims R)
    pub polys : List (List (Cubic R))

  unfoldable pub tells : (h r : ℕ) → Layers h r → (cs : List R) → Lines
  unfolding tell
  tells zero r σ cs = record { claims = []; polys = [] }
  tells (suc h) r σ cs =
      let P = tell r (σ (get_or cs 0 nil)) (drop 1 cs) in
      let Q = tells h (suc r) (P.next.1 (get_or P.left 0 nil)) (drop 1 P.left) in
      record { claims = P.next.0 ∷ Q.claims; polys = P.polys ∷ Q.polys }

  unfoldable pub proof : (m : ℕ) → Strategy m → (cs : List R) → Proof R
  unfolding tells
  proof m σ cs = let Q = tells m 1 (σ.next (get_or cs 0 nil)) (drop 1 cs) in record { q0 = σ.q0; claims = σ.claims ∷ Q.claims; polys = Q.polys }
