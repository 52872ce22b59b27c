-- When claims are a sheet's own.
-- Assumes nothing.
use Rattle.std.specs.Prelude.{Bool, ◌&&◌, Result, Ok, Err}
use Rattle.field.specs.Ext as E
use Rattle.field.specs.Element.{dec}
use Rattle.step.specs.declared.Frac.{Frac}
use Rattle.refusal.specs.declared.Refusal.{Refusal}
use Rattle.evaluation.specs.declared.Values.{Values}

-- the words stand for the same elements, above and below
abbrev pub both_same : Frac → Frac → Bool
both_same a b = E.same (dec a.p) (dec b.p) && E.same (dec a.q) (dec b.q)

-- whether both claims are the values of an evaluation, or there are no values
abbrev pub compared : Result Values Refusal → Frac → Result Bool Refusal
compared (Ok v) stated = Ok (both_same stated (record { p = v.numer; q = v.denom }))
compared (Err r) stated = Err r
