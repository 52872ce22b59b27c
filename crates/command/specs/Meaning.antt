-- What the options of a command mean, word by word.
-- Assumes nothing.
use Rattle.std.specs.Prelude.{Bool, true, false, cond, ◌&&◌, List, ℕ, zero, suc, ◌+◌, Option, Some, None, is_none}
use Rattle.command.specs.declared.words.Mode.{Mode}
use Rattle.command.specs.declared.words.Mode.TheVariants as M
use Rattle.command.specs.declared.words.Name.{Name}
use Rattle.command.specs.declared.words.Name.TheVariants as N
use Rattle.command.specs.declared.words.Word.{Word}
use Rattle.command.specs.declared.words.Word.TheVariants as W
use Rattle.command.specs.declared.options.Flags.{Flags}
use Rattle.command.specs.declared.options.Names.{Names}
use Rattle.command.specs.declared.options.Options.{Options}
use Rattle.command.specs.Arguments.{argument, word_of}

-- a mode that is set
abbrev pub set : Flags → Mode → Flags
set f M.Live = record f { live = true }
set f M.NoAssert = record f { asserted = false }
set f M.Drawn = record f { drawn = true }
set f M.Sized = record f { sized = true }
set f M.NoRows = record f { empty = true }

-- a name that is argument k
abbrev pub named : Names → Name → ℕ → Names
named t N.Challenges k = record t { challenges = Some k }
named t N.Sheet k = record t { sheet = Some k }
named t N.Log k = record t { log = Some k }

-- a name is any word but the empty one
abbrev pub is_name : Word → Bool
is_name W.Empty = false
is_name (W.Mode m) = true
is_name (W.Name n) = true
is_name W.Other = true

-- sandbox, zero asserted, challenges not drawn, the size not bound, 0 rounds not valid
abbrev pub sandbox : Flags
sandbox = record { live = false; asserted = true; drawn = false; sized = false; empty = false }

-- and no name given
abbrev pub none : Options
none = record { flags = sandbox; names = record { challenges = None; sheet = None; log = None }; known = true; awaits = None }

-- an option where one may stand; any other word is not known
abbrev pub asked : Options → Word → Options
asked o (W.Mode m) = record o { flags = set o.flags m; awaits = None }
asked o (W.Name n) = record o { awaits = Some n }
asked o W.Empty = record o { known = false; awaits = None }
asked o W.Other = record o { known = false; awaits = None }

-- argument k where something is awaited: an option, or a name
abbrev pub taken_by : Option Name → Options → Word → ℕ → Options
taken_by None o w k = asked o w
taken_by (Some n) o w k = record o { names = named o.names n k; known = o.known && is_name w; awaits = None }

abbrev pub taken : Options → Word → ℕ → Options
taken o w k = taken_by o.awaits o w k

-- so many arguments, from argument k on
unfoldable pub options_from : ℕ → ℕ → Options → List ℕ → Options
options_from zero k o args = o
options_from (suc left) k o args = options_from left (k + 1) (taken o (word_of (argument k args)) k) args

-- all words are known, and no name is missing
abbrev pub whole : Options → Bool
whole o = o.known && is_none o.awaits

-- drawn challenges are read from nowhere: none are named
abbrev pub one_source : Options → Bool
one_source o = cond o.flags.drawn (is_none o.names.challenges) true

-- no name is given at all
abbrev pub nameless : Options → Bool
nameless o = is_none o.names.challenges && (is_none o.names.sheet && is_none o.names.log)
