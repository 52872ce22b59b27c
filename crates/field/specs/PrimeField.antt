-- The base field, as what a run needs of its field.
-- Assumes nothing.
use Rattle.std.specs.Prelude.{refl}
use Rattle.std.proofs.Common.{◌∙◌, ap, eq-eqb}
use Rattle.ring.specs.Field.{Field}
use Rattle.field.specs.Base.{mul, half, sixth, same}
use Rattle.field.specs.BaseRing.{Base, num_of, two_half, six_sixth}

abbrev pub PrimeField : Field
PrimeField = record {
  ring = Base;
  half = half;
  sixth = sixth;
  two_half = ap (λ t. mul t half) (num_of 2) ∙ two_half;
  six_sixth = ap (λ t. mul t sixth) (num_of 6) ∙ six_sixth;
  same = same;
  same_refl = λ x. eq-eqb x.val x.val refl;
}
