use Rattle.command_files.specs.Given.{held}
use Rattle.command_files.proofs.logs.read_log.Goals as goal

pub returns-in-Whole-clause-given : goal.returns-in-Whole-clause-given
returns-in-Whole-clause-given g c = record { contents = held _; same = c.log_of.ensures.given }
