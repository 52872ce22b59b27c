-- K3 meets the premises, by computation; so both calls return 0, with what document 01 says.
-- Assumes nothing.
use mathlib.Core.Path.{◌≡◌, refl, ◌∙◌, ap}
use mathlib.Core.Bool.{Bool, true, false, cond}
use Prim.Native.Nat.{ℕ, zero, suc, ◌+◌, ◌<◌, ◌≤◌}
use native.Mathlib.Omega.{arith}
use borrow.Author.Tests.{leb-true}
use lib.ListN.{length}
use Rattle.field.specs.ExtRing.{arithmetic}
use Rattle.field.specs.Element.{words_of_point}
use Rattle.field.specs.Cells.{cell}
use Rattle.gkr.specs.Compute.{model, el, minus, frac}
use Rattle.transcript.specs.Used.{used}
use Rattle.refusal.specs.Tests.{first_of}
use Rattle.wire.specs.Words.{all_canonical}
use Rattle.wire.specs.Bytes.{bytes_of, word}
use Rattle.stored.specs.Layout.{claims_words, cubics_words, polys_words, entries_bytes, layout}
use Rattle.stored.specs.Elements.{over_zero}
use Rattle.stored.specs.Parse.{claims_from, cubics_from, entries_from, entries_fit, fits}
use Rattle.prover_tree.specs.Nodes.{node}
use Rattle.sizes.specs.Sizes.{rounds_from, is_size}
use Rattle.prover_gate.specs.Refusals.{short_room, degenerate, lowest, first_refusal}
use Rattle.prover.specs.Proved as Prover
use Rattle.verifier.specs.Verified as Verifier
use Rattle.agreement.specs.Demand3.{root}
use Rattle.agreement.specs.KTable.{K3, room}
use Rattle.accudrina.specs.Answer.{answer_words}
use Rattle.accudrina.specs.Modes.{has, without}
use Rattle.accudrina.specs.Rooms.{words_of_log}
use Rattle.exported.specs.Exported.{Sheet, done, word_of, word_again, proves, handed}
use Rattle.exported.specs.Asked.{ForProver, ForVerifier}
use Rattle.exported.specs.Witness.{n, calls, again, lent, K3Met, K3Accepted}
use Rattle.exported.proofs.Exporting.{demand_3_exported}
use Rattle.exported.proofs.Asking.{premises}

-- no row is over zero
sound : (i : ℕ) → i < 4 → degenerate (node K3.rows i) ≡ false
unfolding arithmetic cell model degenerate
sound zero h = refl
sound (suc zero) h = refl
sound (suc (suc zero)) h = refl
sound (suc (suc (suc zero))) h = refl
sound (suc (suc (suc (suc i)))) h = absurd (omega arith)

sheet : (sized live live_again : Bool) → Sheet (calls sized live) (again live_again) n
unfolding model arithmetic cell all_canonical words_of_point
sheet sized live live_again =
    record {
      taken = record {
        some = leb-true _ _ refl;
        few = leb-true _ _ refl;
        rows = refl;
        enough = leb-true _ _ refl;
        valid_rows = refl;
        valid_challenges = refl;
        checked = λ e. sound;
      };
      alike = refl;
      asserted = refl;
      zero_sum = refl;
      sound = λ e. sound;
    }

-- buffers of zeros, and K3's own challenges
for_prover : (sized live : Bool) → ForProver n (word_of (calls sized live)) K3.challenges (room n)
unfolding words_of_point has
for_prover sized live =
    record {
      proof = leb-true _ _ refl;
      point = leb-true _ _ refl;
      log = logs sized live;
      work = leb-true _ _ refl;
      challenges = λ _. leb-true _ _ refl;
    }
  where
    logs : (sized live : Bool) → words_of_log n (word_of (calls sized live)) ≤ length (room n).log
    logs true true = leb-true _ _ refl
    logs true false = leb-true _ _ refl
    logs false true = leb-true _ _ refl
    logs false false = leb-true _ _ refl

for_verifier : (sized live_again : Bool) → ForVerifier sized n (word_again (again live_again)) K3.challenges (lent sized)
unfolding words_of_point has
for_verifier true live_again = record { point = leb-true _ _ refl; log = leb-true _ _ refl; challenges = λ _. leb-true _ _ refl }
for_verifier false live_again = record { point = leb-true _ _ refl; log = leb-true _ _ refl; challenges = λ _. leb-true _ _ refl }

pub k3_met : K3Met
unfolding rounds_from is_size
k3_met sized live live_again =
    record {
      premises = premises (calls sized live) (again live_again) n (room n) (lent sized) (sheet sized live live_again) (for_prover sized live) (for_verifier sized live_again);
      for_prover = for_prover sized live;
      for_verifier = for_verifier sized live_again;
    }

claims : (sized live live_again : Bool) → (handed (calls sized live) (again live_again) n (proves (calls sized live) (room n)) (lent sized)).told ≡ done 0 (frac (minus 25) (el 1)) (used 4 (cond sized 4 0 + 64))
unfolding model arithmetic cell all_canonical bytes_of word claims_words cubics_words polys_words entries_bytes layout claims_from cubics_from entries_from entries_fit fits over_zero rounds_from is_size short_room degenerate lowest first_of first_refusal words_of_point Prover.fronts Prover.proved Verifier.verified answer_words has without
claims true true true = refl
claims true true false = refl
claims true false true = refl
claims true false false = refl
claims false true true = refl
claims false true false = refl
claims false false true = refl
claims false false false = refl

sum : root K3 n ≡ frac (el 0) (el 1)
unfolding model arithmetic cell
sum = refl

pub k3_accepted : K3Accepted
k3_accepted sized live live_again =
    let e = demand_3_exported (calls sized live) (again live_again) n (room n) (lent sized) (k3_met sized live live_again).premises in
    record { exchanged = e; proved = e.proved ∙ ap (λ f. done n f (used 4 (cond sized 4 0 + 64))) sum; accepted = claims sized live live_again }
