-- Demand 3 for a caller who asked: what was lent is room enough for both.
-- Assumes nothing.
use mathlib.Core.Path.{◌≡◌, sym, ◌∙◌, ap, ap₂, subst}
use Prim.Native.Nat.{ℕ, ◌+◌, ◌^◌}
use native.Mathlib.Omega.{arith}
use lib.ListN.{length}
use Rattle.gkr.specs.Tests.{pass}
use Rattle.gkr.specs.Sizes.{point_words}
use Rattle.refusal.specs.Limits.{max_rounds}
use Rattle.sizes.specs.Sizes.{rounds_of, is_size}
use Rattle.refusal.specs.declared.Verifying.{Verifying}
use Rattle.prover_gate.specs.Refusals.{Call, short_room}
use Rattle.prover.specs.Proved.{Buffers, rooms_of}
use Rattle.verifier.specs.Verified.{Lent}
use Rattle.sizes.specs.SizeLaws.{rounds_taken, size_taken, counted}
use Rattle.accudrina.specs.Rooms.{rounds}
use Rattle.exported.specs.Exported.{Sheet, Premises, word_of, word_again}
use Rattle.exported.specs.Asked.{asked, ForProver, ForVerifier, Demand3Asked}
use Rattle.exported.proofs.Wording.{read_back}
use Rattle.exported.proofs.Lending.{fits, log_lent}
use Rattle.exported.proofs.ProverLent.{roomy}
use Rattle.exported.proofs.Exporting.{demand_3_exported}

module _ (c : Call) (how : Verifying) (n : ℕ) (b : Buffers) (v : Lent) (s : Sheet c how n) where
  -- the question about the rows answers n
  answers_n : asked c.rows ≡ n
  answers_n =
      let few = s.taken.few in
      ap rounds (counted c.rows n s.taken.rows) ∙ pass (is_size (2 ^ n)) (rounds_of (2 ^ n)) (max_rounds + 1) (size_taken n few) ∙ rounds_taken n few

  pub premises : ForProver n (word_of c) c.challenges b → ForVerifier c.modes.sized n (word_again how) c.challenges v → Premises c how n b v
  premises h k =
      let few = s.taken.few in
      let read = (read_back c.modes).modes in
      record {
        sheet = s;
        room = record {
          prover = ap₂ (λ a z. short_room a z n (rooms_of b)) (sym (ap (λ m. m.assert_zero) read ∙ s.asserted)) (sym (ap (λ m. m.sized) read)) ∙ roomy (word_of c) c.challenges b n few h;
          point_again = fits n (point_words n) _ few k.point;
          log_again = log_lent c.modes.sized n (length v.log) few (omega (arith, k.log));
        };
      }

-- THE THEOREM
pub demand_3_asked : Demand3Asked
demand_3_asked c how n b v s h k =
    let e = answers_n c how n b v s in
    demand_3_exported c how n b v (premises c how n b v s (subst (λ j. ForProver j (word_of c) c.challenges b) e h) (subst (λ j. ForVerifier c.modes.sized j (word_again how) c.challenges v) e k))
