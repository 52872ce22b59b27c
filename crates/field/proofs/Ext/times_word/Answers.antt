use mathlib.Core.Path.{◌∙◌, sym}
use Rattle.field.specs.Base.{of}
use Rattle.field.specs.ExtRing.{ext_path, mul_emb}
use Rattle.field.specs.Element.{dec}
use mathlib.Core.Path.{◌∙◌}
use Rattle.field.specs.Ext as E
use Rattle.field.specs.ExtRing.{ext_path}
use borrow.Author.Rules.{rules}
use Rattle.field.proofs.Ext.times_word.Goals as goal

pub returns : goal.returns
unfolding E.ext
returns c = let a = c.args.self in
    record {
      canon = search rules;
      value = ext_path c.mul_word.ensures.1 c.mul_word-2.ensures.1 c.mul_word-3.ensures.1 c.mul_word-4.ensures.1 ∙ sym (mul_emb (dec a) (of c.args.w));
    }
