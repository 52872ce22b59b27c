-- A word of modes read back: it gives the modes, and leaves nothing that is not taken; so the call is the one in these modes.
-- Assumes nothing.
use mathlib.Core.Path.{◌≡◌, refl}
use mathlib.Core.Bool.{Bool, true, false}
use Prim.Native.Nat.{ℕ}
use lib.ListN.{take}
use Rattle.gkr.specs.Sizes.{proof_bytes}
use Rattle.refusal.specs.declared.Proving.{Proving}
use Rattle.refusal.specs.declared.Verifying.{Verifying}
use Rattle.prover_gate.specs.Refusals.{Call, call}
use Rattle.prover.specs.Proved.{Buffers}
use Rattle.verifier.specs.Verified.{Lent, asked}
use Rattle.accudrina.specs.Modes.{proving_bits, verifying_bits, has, without, untaken, proving_of, verifying_of}
use Rattle.accudrina.specs.Calls.{Returned, taking, proving_taken, verifying_taken}
use Rattle.exported.specs.Exported.{word, word_again, proves, handed}

pub record ReadBack (m : Proving) : Type 0 where
  pub modes : proving_of (word m) ≡ m
  pub all_taken : untaken proving_bits (word m) ≡ 0

each : (live asserted drawn sized : Bool) → ReadBack (record { live = live; assert_zero = asserted; drawn = drawn; sized = sized })
unfolding has without
each true true true true = record { modes = refl; all_taken = refl }
each true true true false = record { modes = refl; all_taken = refl }
each true true false true = record { modes = refl; all_taken = refl }
each true true false false = record { modes = refl; all_taken = refl }
each true false true true = record { modes = refl; all_taken = refl }
each true false true false = record { modes = refl; all_taken = refl }
each true false false true = record { modes = refl; all_taken = refl }
each true false false false = record { modes = refl; all_taken = refl }
each false true true true = record { modes = refl; all_taken = refl }
each false true true false = record { modes = refl; all_taken = refl }
each false true false true = record { modes = refl; all_taken = refl }
each false true false false = record { modes = refl; all_taken = refl }
each false false true true = record { modes = refl; all_taken = refl }
each false false true false = record { modes = refl; all_taken = refl }
each false false false true = record { modes = refl; all_taken = refl }
each false false false false = record { modes = refl; all_taken = refl }

pub read_back : (m : Proving) → ReadBack m
read_back m = each m.live m.assert_zero m.drawn m.sized

pub in_its_modes : (c : Call) (b : Buffers) → proves c b ≡ proving_taken c b
in_its_modes c b =
    let w = read_back c.modes in
    λ i. taking (w.all_taken i) b (proving_taken (call c.rows (w.modes i) c.challenges) b)

-- and so is the verifier's
pub record ReadBackAgain (how : Verifying) : Type 0 where
  pub modes : verifying_of (word_again how) ≡ how
  pub all_taken : untaken verifying_bits (word_again how) ≡ 0

each_again : (live drawn empty : Bool) → ReadBackAgain (record { live = live; drawn = drawn; empty = empty })
unfolding has without
each_again true true true = record { modes = refl; all_taken = refl }
each_again true true false = record { modes = refl; all_taken = refl }
each_again true false true = record { modes = refl; all_taken = refl }
each_again true false false = record { modes = refl; all_taken = refl }
each_again false true true = record { modes = refl; all_taken = refl }
each_again false true false = record { modes = refl; all_taken = refl }
each_again false false true = record { modes = refl; all_taken = refl }
each_again false false false = record { modes = refl; all_taken = refl }

pub in_its_mode : (c : Call) (how : Verifying) (n : ℕ) (P : Returned Buffers) (v : Lent) → handed c how n P v ≡ verifying_taken (asked (take (proof_bytes n) P.buffers.proof) n how c.challenges) v
in_its_mode c how n P v =
    let w = each_again how.live how.drawn how.empty in
    λ i. taking (w.all_taken i) v (verifying_taken (asked (take (proof_bytes n) P.buffers.proof) n (w.modes i) c.challenges) v)
