-- Demand 3 over the exported calls, from demand 3: each call tells the inner call's answer in words.
-- Assumes nothing.
use mathlib.Core.Path.{◌≡◌, sym, ◌∙◌, ap, ap₂, subst}
use mathlib.Core.Bool.{Bool, true, false}
use Prim.Native.Nat.{ℕ, zero, suc, ◌<◌, ◌≤◌}
use native.Mathlib.Nat.{mod-eq_of_lt}
use native.Mathlib.Omega.{arith}
use lib.ListN.{take}
use Rattle.field.specs.Ext as E
use Rattle.field.specs.ExtRing.{ExtRing}
use Rattle.field.specs.Element.{enc}
use Rattle.gkr.specs.Run.{Frac}
use Rattle.gkr.specs.Sizes.{proof_bytes, challenges}
use Rattle.gkr.specs.Transcripts.{empty}
use Rattle.gkr.specs.Tree as Tree
use Rattle.transcript.specs.Bound.{bound}
use Rattle.transcript.specs.Used.{used}
use Rattle.refusal.specs.Limits.{max_rounds}
use Rattle.refusal.specs.Numbers.{elements}
use Rattle.refusal.specs.declared.Verifying.{Verifying}
use Rattle.sizes.specs.Sizes.{log_room}
use Rattle.sizes.specs.LimitLaws.{square_small, pair_small}
use Rattle.stored.specs.Parse.{sized}
use Rattle.step.specs.declared.Frac.{Frac as FracW}
use Rattle.prover_tree.specs.Nodes.{node}
use Rattle.prover_gate.specs.Refusals.{Call}
use Rattle.prover.specs.Proved.{Buffers, rooms_of, proved, summed}
use Rattle.prover.specs.Report.{answer_report}
use Rattle.prover.proofs.UsedUp.{using_up}
use Rattle.std.specs.Prelude.{Ok}
use Rattle.verifier_round.specs.declared.Claims.{Claims}
use Rattle.verifier.specs.Verified.{Asked, Lent, asked, verified}
use Rattle.verifier.proofs.UsedUp.{used_up_is}
use Rattle.agreement.specs.Demand3.{root}
use Rattle.agreement.proofs.Agreeing.{front, back, is_done, r', demand_3}
use Rattle.accudrina.specs.Answer.{tells, answer_words}
use Rattle.accudrina.specs.Calls.{proving_taken}
use Rattle.verifier_round.specs.Report.{verdict_report}
use Rattle.exported.specs.Exported.{done, whole, handed, Premises, Exchanged, Demand3Exported}
use Rattle.exported.proofs.Wording.{in_its_modes, in_its_mode}

-- the words of a whole log fit a word
log_small : (z : Bool) (n : ℕ) → n ≤ max_rounds → log_room true z n < 4294967296
log_small z zero few = omega arith
log_small true (suc m) few = omega (arith, square_small (suc m) few)
log_small false (suc m) few = omega (arith, square_small (suc m) few)

-- a plain field that fits a word, two elements, and a whole run of rounds that are taken
telling : (field : ℕ) (f : Frac E.Ext) (z : Bool) (n : ℕ) → field < 4294967296 → n ≤ max_rounds → tells (elements 0 field (enc f.p) (enc f.q)) (whole z n) ≡ done field f (whole z n)
unfolding answer_words
telling field f z n h few =
    let drawn : challenges n < 4294967296 = omega (arith, few, pair_small n few) in
    λ i. done (mod-eq_of_lt h i) f (used (mod-eq_of_lt drawn i) (mod-eq_of_lt (log_small z n few) i))

-- which is what a prover that is done has used up
proved_whole : (c : Call) (b : Buffers) (n : ℕ) (s : FracW) → c.modes.assert_zero ≡ true → (proved c b).answer ≡ summed n s → (proved c b).used ≡ whole c.modes.sized n
unfolding proved
proved_whole c b n s a h = (using_up c (rooms_of b)).done n s h ∙ ap (λ x. used (challenges n) (log_room x c.modes.sized n)) a

-- what the verifier is asked of the proof
abbrev asked_of : (c : Call) (how : Verifying) (n : ℕ) (b : Buffers) → Asked
asked_of c how n b = asked (take (proof_bytes n) (proved c b).buffers.proof) n how c.challenges

-- whose bytes bind their size where the prover was asked to
version : (c : Call) (how : Verifying) (n : ℕ) (b : Buffers) (v : Lent) → Premises c how n b v → sized (asked_of c how n b).proof ≡ c.modes.sized
version c how zero b v h = absurd (omega (arith, h.sheet.taken.some))
version c how (suc m) b v h =
    let s = h.sheet in
    let begin = bound c.modes.sized (suc m) empty in
    let room = r' c how.live m b v s.taken s.asserted s.zero_sum h.room s.sound in
    let ends = is_done c how.live m b v s.taken s.asserted s.zero_sum h.room s.sound in
    ap sized (front c how.live m b v s.taken room s.sound begin ends) ∙ (back c how.live m b v s.taken room s.sound begin ends).sized

-- so the verifier has used up as much
verified_whole : (c : Call) (how : Verifying) (n : ℕ) (b : Buffers) (v : Lent) → Premises c how n b v → (x : Claims) → (verified (asked_of c how n b) v).answer ≡ Ok x → (verified (asked_of c how n b) v).used ≡ whole c.modes.sized n
verified_whole c how n b v h x e = (used_up_is (asked_of c how n b) v).whole x e h.sheet.taken.some ∙ ap (λ z. whole z n) (version c how n b v h)

-- THE THEOREM
pub demand_3_exported : Demand3Exported
demand_3_exported c how n b v h =
    let s = h.sheet in
    let A = demand_3 c how n b v s.taken s.alike s.asserted s.zero_sum h.room s.sound in
    subst (λ P. Exchanged c n b v P (handed c how n P v)) (sym (in_its_modes c b))
    (subst (Exchanged c n b v (proving_taken c b)) (sym (in_its_mode c how n (proving_taken c b) v))
    (record {
      point = A.point;
      logged = A.logged;
      proved = ap₂ (λ a u. tells (answer_report a) u) A.done (proved_whole c b n _ s.asserted A.done) ∙ telling n (root c n) c.modes.sized n (omega (arith, s.taken.few)) s.taken.few;
      accepted = ap₂ (λ a u. tells (verdict_report a) u) A.accepted (verified_whole c how n b v h _ A.accepted) ∙ telling 0 (Tree.value ExtRing (node c.rows) A.point) c.modes.sized n (omega arith) s.taken.few;
      coordinates = A.coordinates;
      proved_point = A.proved_point;
      verified_point = A.verified_point;
      size = A.size;
      proved_log = A.proved_log;
      verified_log = A.verified_log;
    }))
