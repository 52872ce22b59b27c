-- What each verdict of the model answers, and which words it leaves in the point and in the log.
-- Assumes nothing.
use Rattle.std.specs.Prelude.{Result, Ok, Err, List, [], ℕ}
use Rattle.field.specs.Ext as E
use Rattle.field.specs.Extension.{Extension}
use Rattle.field.specs.Element.{enc, words_of_point}
use Rattle.gkr.specs.Gkr as Gkr
use Rattle.gkr.specs.Gkr.{accepted, zero_rounds, layer_count, poly_count, zero_check, root_check, subround_count, layer_check}
use Rattle.gkr.specs.Transcripts.{Words, Source, empty}
use Rattle.transcript.specs.Log.{Drawing}
use Rattle.refusal.specs.declared.Refusal.TheVariants.{ZeroRounds, IncorrectLayerCount, IncorrectSumcheckPolyCount, ZeroCheckFailed, RootConsistencyCheckFailed, IncorrectSubroundCount, LayerConsistencyCheckFailed}
use Rattle.refusal.specs.declared.Refusal.{Refusal}
use Rattle.verifier_round.specs.declared.Claims.{Claims}

-- verdicts over the challenges ch
abbrev pub Model : Source E.Ext → Type 0
Model ch = Gkr.Verdict Extension (Drawing ch)

abbrev pub answer_of : (ch : Source E.Ext) → Model ch → Result Claims Refusal
answer_of ch (accepted v z t) = Ok (record { numer = enc v.p; denom = enc v.q })
answer_of ch zero_rounds = Err ZeroRounds
answer_of ch (layer_count expected actual) = Err (IncorrectLayerCount expected actual)
answer_of ch (poly_count expected actual) = Err (IncorrectSumcheckPolyCount expected actual)
answer_of ch (zero_check actual t) = Err (ZeroCheckFailed (enc actual))
answer_of ch (root_check expected actual t) = Err (RootConsistencyCheckFailed (enc expected) (enc actual))
answer_of ch (subround_count round expected actual t) = Err (IncorrectSubroundCount round expected actual)
answer_of ch (layer_check round expected actual t) = Err (LayerConsistencyCheckFailed round (enc expected) (enc actual))

-- a point is left where it accepts
abbrev pub point_of : (ch : Source E.Ext) → Model ch → List ℕ
point_of ch (accepted v z t) = words_of_point z
point_of ch zero_rounds = []
point_of ch (layer_count expected actual) = []
point_of ch (poly_count expected actual) = []
point_of ch (zero_check actual t) = []
point_of ch (root_check expected actual t) = []
point_of ch (subround_count round expected actual t) = []
point_of ch (layer_check round expected actual t) = []

-- what was observed and sampled until then, from an empty log, and its words
abbrev pub left_by : (ch : Source E.Ext) → Model ch → Words
left_by ch v = Gkr.log_after Extension (Drawing ch) empty v

abbrev pub logged_by : (ch : Source E.Ext) → Model ch → List ℕ
logged_by ch v = (left_by ch v).log
