-- Arguments in one list of bytes, each ended by a byte 0; and the words that are options.
-- Assumes nothing.
use Rattle.std.specs.Prelude.{cond, List, [], ℕ, zero, suc, take, drop, codes, bytes_eq}
use Rattle.sheet_text.specs.Reading.{length_to}
use Rattle.command.specs.declared.words.Word.{Word}
use Rattle.command.specs.declared.words.Word.TheVariants.{Empty, Mode, Name, Other}
use Rattle.command.specs.declared.words.Mode.TheVariants.{Live, NoAssert, Drawn, Sized, NoRows}
use Rattle.command.specs.declared.words.Name.TheVariants.{Challenges, Sheet, Log}

-- argument k, from 0: what stands before a byte 0 or the end, after k bytes 0
unfoldable pub argument : ℕ → List ℕ → List ℕ
argument zero bs = take (length_to 0 bs) bs
argument (suc k) bs = argument k (drop (suc (length_to 0 bs)) bs)

-- nothing, an option that a name follows, an option that is a mode, or any other word
unfoldable pub word_of : List ℕ → Word
word_of w =
    cond (bytes_eq w []) Empty
    (cond (bytes_eq w (codes "--challenges")) (Name Challenges)
    (cond (bytes_eq w (codes "--sheet")) (Name Sheet)
    (cond (bytes_eq w (codes "--log")) (Name Log)
    (cond (bytes_eq w (codes "--live")) (Mode Live)
    (cond (bytes_eq w (codes "--no-assert")) (Mode NoAssert)
    (cond (bytes_eq w (codes "--drawn")) (Mode Drawn)
    (cond (bytes_eq w (codes "--sized")) (Mode Sized)
    (cond (bytes_eq w (codes "--empty")) (Mode NoRows) Other))))))))
