-- What prover and verifier run on: fractions, messages, and the transcript.
-- Assumes nothing.
use Rattle.std.specs.Prelude.{List}
use Rattle.multilinear.specs.RoundSum.{Claims}

-- a fraction p / q, never reduced
pub record Frac (A : Type 0) : Type 0 where
  pub p : A
  pub q : A

-- a sub-round's polynomial s, by s(1), s(2), s(3)
pub record Cubic (A : Type 0) : Type 0 where
  pub at1 : A
  pub at2 : A
  pub at3 : A

-- a proof: the root's denominator, the claims of each layer, and the sub-rounds' polynomials of each layer after layer 0
pub record Proof (A : Type 0) : Type 0 where
  pub q0 : A
  pub claims : List (Claims A)
  pub polys : List (List (Cubic A))

-- a transcript of elements of A: its log after an observation, the challenge that is sampled next, and the log after that
pub record Transcript (A : Type 0) : Type 1 where
  pub Log : Type 0
  pub observe : A → Log → Log
  pub draw : Log → A
  pub drawn : Log → Log
