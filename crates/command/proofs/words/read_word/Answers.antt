use Rattle.std.proofs.Common.{rules, arith, codes}
use Rattle.command.specs.Arguments.{word_of}
use Rattle.command.proofs.Finding.{is_text}
use Rattle.command.proofs.words.read_word.Goals as goal

pub returns-in-45 : goal.returns-in-45
unfolding word_of
returns-in-45 c = is_text c.args.word.now (codes "--challenges") (omega arith) (search rules)

pub returns-in-45-2 : goal.returns-in-45-2
unfolding word_of
returns-in-45-2 c = is_text c.args.word.now (codes "--sheet") (omega arith) (search rules)

pub returns-in-45-4 : goal.returns-in-45-4
unfolding word_of
returns-in-45-4 c = is_text c.args.word.now (codes "--live") (omega arith) (search rules)

pub returns-in-45-5 : goal.returns-in-45-5
unfolding word_of
returns-in-45-5 c = is_text c.args.word.now (codes "--no-assert") (omega arith) (search rules)

pub returns-in-45-6 : goal.returns-in-45-6
unfolding word_of
returns-in-45-6 c = is_text c.args.word.now (codes "--drawn") (omega arith) (search rules)

pub returns-in-45-7 : goal.returns-in-45-7
unfolding word_of
returns-in-45-7 c = is_text c.args.word.now (codes "--sized") (omega arith) (search rules)

pub returns-in-45-8 : goal.returns-in-45-8
unfolding word_of
returns-in-45-8 c = is_text c.args.word.now (codes "--empty") (omega arith) (search rules)
