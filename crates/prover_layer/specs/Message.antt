-- A sub-round's polynomial as a line times a parabola, and what a sub-round begins with.
-- Assumes nothing.
use Rattle.field.specs.Ext as E
use Rattle.field.specs.ExtRing.{ExtRing}
use Rattle.field.specs.Element.{dec, Canon, Is}
use Rattle.multilinear.specs.Forms as Forms
use Rattle.step.specs.Values.{minus}
use Rattle.prover_layer.specs.declared.Turn.{Turn}

pub record CanonTurn (t : Turn) : Type 0 where
  pub c : Canon t.c
  pub x : Canon t.x
  pub h0 : Canon t.h0
  pub h1 : Canon t.h1

pub record IsTurn (t : Turn) (a z u v : E.Ext) : Type 0 where
  pub c : Is t.c a
  pub x : Is t.x z
  pub h0 : Is t.h0 u
  pub h1 : Is t.h1 v

-- the parabola with the values h0 at 0 and h1 at 1 and the leading coefficient `lead`, at x
abbrev pub parabola : E.Ext → E.Ext → E.Ext → E.Ext → E.Ext
parabola h0 h1 lead x = E.add h0 (E.mul x (E.add (minus (minus h1 h0) lead) (E.mul x lead)))

-- the polynomial at z, its parabola led by `lead`
abbrev pub said : Turn → E.Ext → E.Ext → E.Ext
said t lead z = E.mul (E.mul (dec t.c) (Forms.agree ExtRing (dec t.x) z)) (parabola (dec t.h0) (dec t.h1) lead z)
