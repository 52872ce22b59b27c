use Rattle.command_files.specs.Given.{held}
use Rattle.command_files.proofs.inputs.read_sheet.Goals as goal

pub returns-in-Whole-clause-given : goal.returns-in-Whole-clause-given
returns-in-Whole-clause-given g c = record { contents = held _; same = c.rows_of.ensures.given }
