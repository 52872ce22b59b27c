use Rattle.std.proofs.Common.{rules, arith}
use Rattle.columns.proofs.Writes.{put_part}
use Rattle.columns.proofs.put.Goals as goal

pub returns : goal.returns
returns c = put_part c.args.s.now _ c.args.i _ c.args.e (search rules) (omega arith) (omega arith) c.copy_from_slice.ensures.after
