use Rattle.stored.specs.ParseLaws.{good_shape}
use Rattle.stored_test.proofs.proofs.ask.Goals as goal

pub word_count-words-requires : goal.word_count-words-requires
word_count-words-requires c = good_shape c.args.proof.now c.in-Ok.outline c.in-Ok.ensures

pub first_bad_in_proof-requires : goal.first_bad_in_proof-requires
first_bad_in_proof-requires c = good_shape c.args.proof.now c.in-Ok.outline c.in-Ok.ensures
