-- Provers against challenges that are drawn: what they send may depend on all challenges before, and on none that comes after.
-- Assumes nothing.
use Rattle.std.specs.Prelude.{ℕ, suc, ◌≡◌, List, [], ◌∷◌, map, length, get_or, drop}
use Rattle.ring.specs.Field.{Field}
use Rattle.gkr.specs.Run.{Transcript, Frac, Proof}
use Rattle.gkr.specs.Gkr
use Rattle.gkr.specs.Sizes as Sizes
use Rattle.gkr.specs.Count.{lengths}
use Rattle.soundness.specs.Steps.{Step, Drawn}
use Rattle.soundness.specs.Challenges.{challenges, Accepts, RootIs}

-- each challenge, with what the challenges before it put on the table
abbrev pub along : {Q A : Type 0} (table : (before : List A) → Q) (cs : List A) → List (Drawn Q A)
along table [] = []
along table (x ∷ cs) = record { step = table []; challenge = x } ∷ along (λ before. table (x ∷ before)) cs

-- the lists of a proof have the lengths that the verifier of suc m rounds asks for
abbrev pub Shaped : {A : Type 0} (m : ℕ) (π : Proof A) → Type 0
Shaped m π = (length π.claims ≡ suc m) × (map length π.polys ≡ lengths m 1)

module _ (F : Field) where
  open F.ring use {carrier as R, nil}

  -- challenges that come from a list: the log is what is left of it
  abbrev pub coins : Transcript R
  coins = record { Log = List R; observe = λ x cs. cs; draw = λ cs. get_or cs 0 nil; drawn = drop 1 }

  -- a prover, by the proof that it has sent when these challenges are drawn
  abbrev pub Prover : Type 0
  Prover = List R → Proof R

  -- the verifier of suc m rounds accepts, and the claims that it hands on are the values of the rows f
  abbrev pub Convinces : (f : ℕ → Frac R) (m : ℕ) (σ : Prover) (cs : List R) → Type 0
  Convinces f m σ cs = Accepts F coins f (Gkr.verify_gkr F coins (suc m) (σ cs) cs)

  -- A PROVER THAT DOES NOT LOOK AHEAD: where it convinces, what is on the table before a challenge is given by the challenges before it
  pub record Adaptive (f : ℕ → Frac R) (m : ℕ) (σ : Prover) : Type 0 where
    pub table : (before : List R) → Step R
    pub follows : (cs : List R) → length cs ≡ Sizes.challenges (suc m) → Convinces f m σ cs → challenges F coins (σ cs) cs ≡ along table cs

  -- IT CHEATS: it convinces, and the sum of the rows is not zero over the denominator that it names
  abbrev pub Cheats : (f : ℕ → Frac R) (m : ℕ) (σ : Prover) (cs : List R) → Type 0
  Cheats f m σ cs = Convinces f m σ cs × ¬ RootIs F f (suc m) (σ cs).q0
