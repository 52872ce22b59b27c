use Rattle.poly.proofs.Gates.{clean_of}
use Rattle.poly.proofs.CheckLaws.{passes}
use Rattle.poly.specs.Checks.{bad_word}
use Rattle.std.proofs.Common.{refl}
use Rattle.poly.proofs.eq.evals_eq_hypercube_serial.Goals as goal

pub eq_table-requires-clause-clean : goal.eq_table-requires-clause-clean
eq_table-requires-clause-clean c = clean_of c.args.x.now (passes _ bad_word c.in_ok-check_words.ensures refl)
