-- Claims and sub-rounds of canonical words.
-- Assumes nothing.
use Rattle.field.specs.Element.{Canon}
use Rattle.field.specs.declared.Ext.{Ext}
use Rattle.multilinear.specs.RoundSum.{Claims}
use Rattle.gkr.specs.Run.{Cubic}

-- CANONICAL WORDS, ELEMENT BY ELEMENT
pub record CanonClaims (c : Claims Ext) : Type 0 where
  pub p0 : Canon c.p0
  pub q0 : Canon c.q0
  pub p1 : Canon c.p1
  pub q1 : Canon c.q1

pub record CanonCubic (m : Cubic Ext) : Type 0 where
  pub at1 : Canon m.at1
  pub at2 : Canon m.at2
  pub at3 : Canon m.at3
