use Rattle.std.proofs.Common.{rules}
use Rattle.std.proofs.lemmas.Iterator.{YieldsList-from_slice, YieldsList-from_zip}
use Rattle.std.proofs.lemmas.Iterator.Search.{position_from_yields_List}
use Rattle.log_replay.specs.Inner.{differ}
use Rattle.log_replay.proofs.first_difference.Goals as goal

pub returns : goal.returns
returns c = position_from_yields_List differ c.position.new.self _ _ c.position.ensures.ran (YieldsList-from_zip (YieldsList-from_slice c.args.given.now cc) (YieldsList-from_slice c.args.left.now cc)) (λ x b q k. search rules)
