use Rattle.wire.specs.WrittenLaws.{wrote_then}
use Rattle.stored_writer.proofs.put_entry.Goals as goal

pub returns : goal.returns
returns c = wrote_then _ _ _ _ _ _ _ _ c.put_byte-p.ensures c.put_subrounds.ensures
