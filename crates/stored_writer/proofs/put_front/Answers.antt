use Rattle.stored_writer.proofs.PutLaws.{element_ends, claims_ends, log_room_fits}
use Rattle.wire.specs.WrittenLaws.{wrote_then}
use native.Mathlib.Omega.{arith}
use Rattle.stored_writer.proofs.put_front.Goals as goal

pub put_byte-c-requires : goal.put_byte-c-requires
put_byte-c-requires c = omega (arith, c.requires, element_ends _ c.put_cell-b.ensures, c.put_cell-b.auto)

pub put_claims-d-requires : goal.put_claims-d-requires
put_claims-d-requires c = let m = log_room_fits 0 c.args.n (omega (arith, c.requires)) in omega (arith, c.requires, element_ends _ c.put_cell-b.ensures, c.put_cell-b.auto, c.put_byte-c.ensures.ends, c.put_byte-c.auto, m)

pub put_layers-requires : goal.put_layers-requires
put_layers-requires c = let m = log_room_fits 0 c.args.n (omega (arith, c.requires)) in omega (arith, c.requires, element_ends _ c.put_cell-b.ensures, c.put_cell-b.auto, c.put_byte-c.ensures.ends, c.put_byte-c.auto, claims_ends _ c.put_claims-d.ensures, c.put_claims-d.auto, m)

pub returns : goal.returns
returns c = wrote_then _ _ _ _ _ _ _ _ (wrote_then _ _ _ _ _ _ _ _ (wrote_then _ _ _ _ _ _ _ _ c.put_cell-b.ensures c.put_byte-c.ensures) c.put_claims-d.ensures) c.put_layers.ensures
