-- No second answer fits what the public functions promise, for any input.
-- Assumes nothing.
use Rattle.std.specs.Prelude.{◌≡◌, Option, Result, Bool, List, ℕ}
use Rattle.std.proofs.Common.{sym, ◌∙◌}
use Rattle.wire.specs.Words.{all_canonical, bad_place}
use Rattle.stored.specs.declared.Outline.{Outline}
use Rattle.refusal.specs.declared.Refusal.{Refusal}
use Rattle.stored.specs.declared.LayerClaims.{LayerClaims}
use Rattle.stored.specs.declared.SubroundEvals.{SubroundEvals}
use Rattle.stored.specs.Parse.{known, sized, parse, claims_of, cubic_of}
use Rattle.stored.specs.Shapes.{shape_of, claims_in, cubic_in}

pub one_shape : (bs : List ℕ) (r r' : Result Outline Refusal) → r ≡ shape_of (parse bs) → r' ≡ shape_of (parse bs) → r ≡ r'
one_shape bs r r' e e' = e ∙ sym e'

pub one_known : (bs : List ℕ) (r r' : Bool) → r ≡ known bs → r' ≡ known bs → r ≡ r'
one_known bs r r' e e' = e ∙ sym e'

pub one_sized : (bs : List ℕ) (r r' : Bool) → r ≡ sized bs → r' ≡ sized bs → r ≡ r'
one_sized bs r r' e e' = e ∙ sym e'

pub one_place : (ws : List ℕ) (r r' : Option ℕ) → r ≡ bad_place ws → r' ≡ bad_place ws → r ≡ r'
one_place ws r r' e e' = e ∙ sym e'

pub one_test : (ws : List ℕ) (r r' : Bool) → r ≡ all_canonical ws → r' ≡ all_canonical ws → r ≡ r'
one_test ws r r' e e' = e ∙ sym e'

pub one_claims : (bs : List ℕ) (r r' : LayerClaims) → claims_in r ≡ claims_of bs → claims_in r' ≡ claims_of bs → r ≡ r'
one_claims bs r r' e e' = let h = e ∙ sym e' in λ i. record { p_xi_0 = (h i).p0; q_xi_0 = (h i).q0; p_xi_1 = (h i).p1; q_xi_1 = (h i).q1 }

pub one_subround : (bs : List ℕ) (r r' : SubroundEvals) → cubic_in r ≡ cubic_of bs → cubic_in r' ≡ cubic_of bs → r ≡ r'
one_subround bs r r' e e' = let h = e ∙ sym e' in λ i. record { s_1 = (h i).at1; s_2 = (h i).at2; s_3 = (h i).at3 }
