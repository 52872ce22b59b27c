-- The table of numbers returned: each refusal's number and fields, zero where it has none.
-- Assumes nothing.
use Rattle.std.specs.Prelude.{ℕ}
use Rattle.field.specs.declared.Ext.{Ext}
use Rattle.refusal.specs.declared.Report.{Report}
use Rattle.refusal.specs.declared.Words.{Words}
use Rattle.refusal.specs.declared.Words.TheVariants.{Rows, Proof, Challenges, Point, Own}
use Rattle.refusal.specs.declared.Refusal.{Refusal}
use Rattle.refusal.specs.declared.Refusal.TheVariants.{RaggedRows, TooManyRows, NotPowerOfTwo, ShortChallenges, ShortRoom, BadWord, ZeroDenominator, NonZeroRootSum, SingleRow, ZeroRounds, TooManyRounds, BadVersion, BadLength, IncorrectLayerCount, IncorrectSumcheckPolyCount, ZeroCheckFailed, RootConsistencyCheckFailed, IncorrectSubroundCount, LayerConsistencyCheckFailed, InvalidZeroRoundValue, LogMismatch, LogShort, LogLong, ZeroRoot}

-- no element
abbrev pub none : Ext
none = record { c0 = 0; c1 = 0; c2 = 0; c3 = 0 }

-- a number with its plain fields, and with its elements
abbrev pub plain : ℕ → ℕ → ℕ → ℕ → Report
plain number first second third = record { number = number; first = first; second = second; third = third; left = none; right = none }

abbrev pub elements : ℕ → ℕ → Ext → Ext → Report
elements number first left right = record { number = number; first = first; second = 0; third = 0; left = left; right = right }

-- the lists whose words are looked at; a helper's own have no number
abbrev pub list_number : Words → ℕ
list_number Rows = 1
list_number Proof = 2
list_number Challenges = 3
list_number Point = 4
list_number Own = 0

abbrev pub report_of : Refusal → Report
report_of RaggedRows = plain 1 0 0 0
report_of TooManyRows = plain 2 0 0 0
report_of NotPowerOfTwo = plain 3 0 0 0
report_of ShortChallenges = plain 4 0 0 0
report_of ShortRoom = plain 5 0 0 0
report_of (BadWord place list) = plain 6 place (list_number list) 0
report_of (ZeroDenominator row) = plain 7 row 0 0
report_of NonZeroRootSum = plain 8 0 0 0
report_of SingleRow = plain 9 0 0 0
report_of ZeroRounds = plain 10 0 0 0
report_of TooManyRounds = plain 11 0 0 0
report_of BadVersion = plain 12 0 0 0
report_of BadLength = plain 13 0 0 0
report_of (IncorrectLayerCount expected actual) = plain 14 expected actual 0
report_of (IncorrectSumcheckPolyCount expected actual) = plain 15 expected actual 0
report_of (ZeroCheckFailed actual) = elements 16 0 actual none
report_of (RootConsistencyCheckFailed expected actual) = elements 17 0 expected actual
report_of (IncorrectSubroundCount round expected actual) = plain 18 round expected actual
report_of (LayerConsistencyCheckFailed round expected actual) = elements 19 round expected actual
report_of (InvalidZeroRoundValue actual) = elements 22 0 actual none
report_of (LogMismatch place) = plain 24 place 0 0
report_of (LogShort place) = plain 25 place 0 0
report_of (LogLong place) = plain 26 place 0 0
report_of ZeroRoot = plain 27 0 0 0
