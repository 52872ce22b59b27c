-- The premises can be met, for both versions of a proof and in both modes of proving and of verifying: document 01's K3. It is proved and accepted through the exported calls.
-- Assumes nothing.
use Rattle.std.specs.Prelude.{◌≡◌, Bool, true, false, cond, ℕ, ◌+◌, replicate}
use Rattle.gkr.specs.Compute.{el, minus, frac}
use Rattle.gkr.specs.Sizes.{point_words}
use Rattle.sizes.specs.Sizes.{log_room}
use Rattle.transcript.specs.Used.{used}
use Rattle.refusal.specs.declared.Verifying.{Verifying}
use Rattle.prover_gate.specs.Refusals.{Call, call}
use Rattle.verifier.specs.Verified.{Lent}
use Rattle.agreement.specs.KTable.{K3, room}
use Rattle.exported.specs.Exported.{Premises, Exchanged, done, word_of, word_again, proves, handed}
use Rattle.exported.specs.Asked.{asked, ForProver, ForVerifier}

-- its rounds
abbrev pub n : ℕ
n = 2

-- its call, and how it is verified
abbrev pub calls : (sized live : Bool) → Call
calls sized live = call K3.rows (record { live = live; assert_zero = true; drawn = false; sized = sized }) K3.challenges

abbrev pub again : (live : Bool) → Verifying
again live = record { live = live; drawn = false; empty = false }

-- buffers of zeros for the verifier, not a word to spare
abbrev pub lent : (sized : Bool) → Lent
lent sized = record { point = replicate (point_words n) 0; log = replicate (log_room true sized n) 0 }

-- demand 3's premises, and those of a caller who asks
pub record Met (c : Call) (how : Verifying) (v : Lent) : Type 0 where
  pub premises : Premises c how n (room n) v
  pub for_prover : ForProver (asked c.rows) (word_of c) c.challenges (room n)
  pub for_verifier : ForVerifier c.modes.sized (asked c.rows) (word_again how) c.challenges v

-- both calls return 0; the prover's words say two rounds and the sum 0/1, the verifier's the claims −25 and 1, and both that four challenges were used up and 64 words logged, or 68
pub record Accepted (c : Call) (how : Verifying) (v : Lent) : Type 0 where
  pub exchanged : let P = proves c (room n) in Exchanged c n (room n) v P (handed c how n P v)
  pub proved : (proves c (room n)).told ≡ done n (frac (el 0) (el 1)) (used 4 (cond c.modes.sized 4 0 + 64))
  pub accepted : (handed c how n (proves c (room n)) v).told ≡ done 0 (frac (minus 25) (el 1)) (used 4 (cond c.modes.sized 4 0 + 64))

abbrev pub K3Met : Type 0
K3Met = (sized live live_again : Bool) → Met (calls sized live) (again live_again) (lent sized)

abbrev pub K3Accepted : Type 0
K3Accepted = (sized live live_again : Bool) → Accepted (calls sized live) (again live_again) (lent sized)
