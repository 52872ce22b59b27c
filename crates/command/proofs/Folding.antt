-- The turns of the loop over the options.
-- Assumes nothing.
use Rattle.std.proofs.Common.{◌≡◌, ℕ, suc, ◌+◌, ◌-◌, ◌<◌, ◌≤◌, List, sym, ◌∙◌, ap, arith}
use Rattle.command.specs.declared.words.Word.{Word}
use Rattle.command.specs.declared.options.Options.{Options}
use Rattle.command.specs.Arguments.{argument, word_of}
use Rattle.command.specs.Meaning.{taken, options_from}

module _ (args : List ℕ) (n k : ℕ) (o : Options) where
  -- what is left from here gives the options that were to be read
  pub turn : (w : Word) (next : Options) → k < n → w ≡ word_of (argument k args) → next ≡ taken o w k → options_from (n - k) k o args ≡ options_from (n - (k + 1)) (k + 1) next args
  unfolding options_from
  turn w next h e s =
      let q : n - k ≡ suc (n - (k + 1)) = omega arith in
      rw q (ap (λ x. options_from (n - (k + 1)) (k + 1) x args) (ap (λ x. taken o x k) (sym e) ∙ sym s))

  pub ends : n ≤ k → options_from (n - k) k o args ≡ o
  unfolding options_from
  ends h = let q : n - k ≡ 0 = omega arith in rw q
