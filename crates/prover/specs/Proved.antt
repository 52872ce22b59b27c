-- What a call of the prover answers, uses up and writes at the front of every buffer, and what these hold after it: the refusals in their order, the model's run, and the stored forms.
-- Assumes nothing.
use Rattle.std.specs.Prelude.{Bool, cond, not, ◌&&◌, List, [], ℕ, zero, suc, eqb, length, take, replicate, Result, Ok, Err}
use Rattle.field.specs.Ext as E
use Rattle.field.specs.Extension.{Extension}
use Rattle.field.specs.Element.{enc, words_of_point}
use Rattle.gkr.specs.Run.{Frac}
use Rattle.gkr.specs.Transcripts.{empty, Source}
use Rattle.gkr.specs.Gkr as Gkr
use Rattle.gkr.specs.Gkr.{done, non_zero_root_sum}
use Rattle.transcript.specs.Source.{supplied, source}
use Rattle.transcript.specs.Log.{Drawing}
use Rattle.transcript.specs.Bound.{bound}
use Rattle.transcript.specs.declared.Used.{Used}
use Rattle.transcript.specs.Used.{unused, used_up}
use Rattle.step.specs.declared.Frac.{Frac as FracW}
use Rattle.prover_tree.specs.Nodes.{node}
use Rattle.stored.specs.Layout.{layout}
use Rattle.stored.specs.Elements.{encoded}
use Rattle.refusal.specs.Tests.{Tested, passed, refused}
use Rattle.refusal.specs.Fronts.{over}
use Rattle.refusal.specs.declared.Proving.{Proving}
use Rattle.refusal.specs.declared.Refusal.{Refusal}
use Rattle.refusal.specs.declared.Refusal.TheVariants.{NonZeroRootSum, SingleRow}
use Rattle.sizes.specs.Sizes.{row_count, rounds_of, needed_words, work_room}
use Rattle.prover_gate.specs.declared.Rooms.{Rooms}
use Rattle.prover_gate.specs.Refusals.{Call, rooms, first_refusal}
use Rattle.prover.specs.declared.Done.{Done}

-- the buffers lent for proof bytes, point, log and work
pub record Buffers : Type 0 where
  pub proof : List ℕ
  pub point : List ℕ
  pub log : List ℕ
  pub work : List ℕ

abbrev pub lent : (proof point log work : List ℕ) → Buffers
lent proof point log work = record { proof = proof; point = point; log = log; work = work }

abbrev pub rooms_of : Buffers → Rooms
rooms_of b = rooms (length b.proof) (length b.point) (length b.log) (length b.work)

-- n rounds are done, with the sum s
abbrev pub summed : (n : ℕ) (s : FracW) → Result Done Refusal
summed n s = Ok (record { rounds = n; sum = s })

-- an answer, what was used up, and four lists: the words that a call writes, or what the buffers hold after it
pub record Outcome : Type 0 where
  pub answer : Result Done Refusal
  pub used : Used
  pub buffers : Buffers

abbrev pub outcome : Result Done Refusal → Used → (proof point log work : List ℕ) → Outcome
outcome answer used proof point log work = record { answer = answer; used = used; buffers = record { proof = proof; point = point; log = log; work = work } }

-- the words of a front at the fronts of the buffers, and the rest as before
abbrev pub laid : (front : Outcome) → Buffers → Outcome
laid f b = outcome f.answer f.used (over f.buffers.proof b.proof) (over f.buffers.point b.point) (over f.buffers.log b.log) (over f.buffers.work b.work)

abbrev pub enc_frac : Frac E.Ext → FracW
enc_frac x = record { p = enc x.p; q = enc x.q }

-- a refusal that writes nothing
abbrev pub untouched : Refusal → Outcome
untouched e = outcome (Err e) unused [] [] [] []

-- n rounds are done: the workspace that they need is zero
abbrev pub finished : (ch : Source E.Ext) (sized : Bool) (n : ℕ) → Gkr.Proved Extension (Drawing ch) → Outcome
finished ch sized n P = outcome (summed n (enc_frac P.sum)) (used_up P.log) (layout sized (encoded P.proof)) (words_of_point P.point) P.log.log (replicate (work_room n) 0)

-- what the model answers over n rounds, with the challenges ch
abbrev pub after : (ch : Source E.Ext) (sized : Bool) (n : ℕ) → Gkr.Answer Extension (Drawing ch) → Outcome
after ch sized n (done P) = finished ch sized n P
after ch sized n non_zero_root_sum = outcome (Err NonZeroRootSum) unused [] [] [] (replicate (work_room n) 0)

-- one row is never proved
abbrev pub one_row : (rows : List ℕ) (asserted : Bool) → Refusal
one_row rows asserted = cond (asserted && not (E.same (node rows 0).p E.nil)) NonZeroRootSum SingleRow

-- the model's run over 2 ^ suc m rows, from the log that holds the rounds where the proof binds its size
abbrev pub modelled : (rows : List ℕ) (asserted sized : Bool) (ch : Source E.Ext) (m : ℕ) → Outcome
modelled rows asserted sized ch m = after ch sized (suc m) (Gkr.fractional_sumcheck Extension (Drawing ch) asserted m (node rows) (bound sized (suc m) empty))

-- n rounds: 0 for no rows and for one row; else over 2 ^ n rows, with the needed challenges
abbrev pub ran : (rows : List ℕ) (modes : Proving) (challenges : List ℕ) (n : ℕ) → Outcome
ran rows modes challenges zero = cond (eqb (row_count rows) 0) (finished (supplied []) modes.sized 0 (Gkr.no_rows Extension (Drawing (supplied [])) empty)) (untouched (one_row rows modes.assert_zero))
ran rows modes challenges (suc m) = modelled rows modes.assert_zero modes.sized (source modes.drawn (take (needed_words modes.drawn (suc m)) challenges)) m

abbrev pub entered : Call → Tested → Outcome
entered c (refused e) = untouched e
entered c passed = ran c.rows c.modes c.challenges (rounds_of (row_count c.rows))

-- the answer, and the words at the front of each buffer
unfoldable pub fronts : Call → Rooms → Outcome
fronts c r = entered c (first_refusal c r)

unfoldable pub proved : Call → Buffers → Outcome
proved c b = laid (fronts c (rooms_of b)) b
