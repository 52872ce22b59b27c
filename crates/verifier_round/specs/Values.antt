-- The model's values that stored messages and the structs of this crate stand for.
-- Assumes nothing.
use Rattle.field.specs.Ext as E
use Rattle.field.specs.declared.Ext.{Ext}
use Rattle.field.specs.Element.{dec, Canon}
use Rattle.multilinear.specs.RoundSum.{Claims}
use Rattle.gkr.specs.Run.{Frac, Cubic}
use Rattle.verifier_round.specs.declared.Claims.{Claims as Claimed}
use Rattle.verifier_round.specs.declared.Sums.{Sums}

abbrev pub dec_claims : Claims Ext → Claims E.Ext
dec_claims c = record { p0 = dec c.p0; q0 = dec c.q0; p1 = dec c.p1; q1 = dec c.q1 }

abbrev pub dec_cubic : Cubic Ext → Cubic E.Ext
dec_cubic m = record { at1 = dec m.at1; at2 = dec m.at2; at3 = dec m.at3 }

-- the claims on the two columns
abbrev pub columns : Claimed → Frac E.Ext
columns s = record { p = dec s.numer; q = dec s.denom }

-- all words are canonical
pub record CanonSums (s : Sums) : Type 0 where
  pub claim : Canon s.claim
  pub eq : Canon s.eq
  pub xi : Canon s.xi
