-- What the shape reader answers, and the struct of claims and of a sub-round as the model's.
-- Assumes nothing.
use Rattle.std.specs.Prelude.{Result, Ok, Err, ◌+◌, ◌*◌, length}
use Rattle.field.specs.declared.Ext.{Ext}
use Rattle.multilinear.specs.RoundSum.{Claims}
use Rattle.gkr.specs.Run.{Cubic, Proof}
use Rattle.refusal.specs.declared.Refusal.{Refusal}
use Rattle.refusal.specs.declared.Refusal.TheVariants.{BadVersion, BadLength}
use Rattle.stored.specs.declared.Outline.{Outline}
use Rattle.stored.specs.declared.LayerClaims.{LayerClaims}
use Rattle.stored.specs.declared.SubroundEvals.{SubroundEvals}
use Rattle.stored.specs.Parse.{Parsed, bad_version, bad_length, parsed}

-- the counts, and the place of the first polynomial entry
abbrev pub outline_of : Proof Ext → Outline
outline_of π = record { layers = length π.claims; entries = length π.polys; polys = 23 + 64 * length π.claims }

abbrev pub shape_of : Parsed → Result Outline Refusal
shape_of bad_version = Err BadVersion
shape_of bad_length = Err BadLength
shape_of (parsed sized π) = Ok (outline_of π)

abbrev pub claims_in : LayerClaims → Claims Ext
claims_in c = record { p0 = c.p_xi_0; q0 = c.q_xi_0; p1 = c.p_xi_1; q1 = c.q_xi_1 }

abbrev pub cubic_in : SubroundEvals → Cubic Ext
cubic_in s = record { at1 = s.s_1; at2 = s.s_2; at3 = s.s_3 }
