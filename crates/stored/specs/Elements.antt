-- A proof over one kind of element as a proof over another; proofs of elements and proofs of their words; a root over zero.
-- Assumes nothing.
use Rattle.std.specs.Prelude.{Bool, ◌&&◌, List, map, ℕ, leb, length}
use Rattle.field.specs.Ext as E
use Rattle.field.specs.Element.{dec, enc}
use Rattle.field.specs.declared.Ext.{Ext}
use Rattle.multilinear.specs.RoundSum.{Claims}
use Rattle.gkr.specs.Run.{Cubic, Proof}
use Rattle.stored.specs.Parse.{proof_of}

module _ {A B : Type 0} (f : A → B) where
  abbrev pub map_claims : Claims A → Claims B
  map_claims c = record { p0 = f c.p0; q0 = f c.q0; p1 = f c.p1; q1 = f c.q1 }

  abbrev pub map_cubic : Cubic A → Cubic B
  map_cubic m = record { at1 = f m.at1; at2 = f m.at2; at3 = f m.at3 }

  abbrev pub map_proof : Proof A → Proof B
  map_proof π = record { q0 = f π.q0; claims = map map_claims π.claims; polys = map (map map_cubic) π.polys }

-- the words of a proof's elements, and the elements that words stand for
abbrev pub encoded : Proof E.Ext → Proof Ext
encoded π = map_proof enc π

abbrev pub decoded : Proof Ext → Proof E.Ext
decoded π = map_proof dec π

-- the bytes have a q0, the denominator of the sum, and it is zero
unfoldable pub over_zero : List ℕ → Bool
over_zero bs = leb 21 (length bs) && E.same (decoded (proof_of bs)).q0 E.nil
