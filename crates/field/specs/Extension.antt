-- The extension, as what a run needs of its field.
-- Assumes nothing.
use Rattle.std.specs.Prelude.{refl}
use Rattle.ring.specs.Field.{Field}
use Rattle.field.specs.Ext.{half, sixth, same}
use Rattle.field.specs.ExtRing.{ExtRing, two_half, six_sixth, same_of}

abbrev pub Extension : Field
Extension = record {
  ring = ExtRing;
  half = half;
  sixth = sixth;
  two_half = two_half;
  six_sixth = six_sixth;
  same = same;
  same_refl = λ x. same_of x x refl;
}
