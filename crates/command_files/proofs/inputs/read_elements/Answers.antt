use Rattle.command_files.specs.Given.{held}
use Rattle.command_files.proofs.inputs.read_elements.Goals as goal

pub returns-clause-given : goal.returns-clause-given
returns-clause-given g c = record { contents = held _; same = c.elements_of.ensures.given }
