-- Demand 3, proved: the prover's bytes are read back as the honest proof, which passes the live verifier's root check and which the model's verifier accepts.
-- Assumes nothing.
use mathlib.Core.Path.{◌≡◌, refl, sym, ◌∙◌, ap, ap₂, subst}
use mathlib.Core.Bool.{Bool, true, false, not, ◌&&◌, and-eq-true_iff}
use mathlib.Core.List.{List}
use Prim.Native.Nat.{ℕ, zero, suc, ◌+◌, ◌≤◌}
use native.Mathlib.Omega.{arith}
use borrow.Author.Tests.{ne_eqb}
use lib.Dec.{eqb}
use lib.ListN.{length, take, drop}
use lib.Seq.{take_at}
use Rattle.field.specs.Ext as E
use Rattle.field.specs.ExtRing.{ExtRing, same_true}
use Rattle.field.specs.Extension.{Extension}
use Rattle.field.specs.Element.{words}
use Rattle.field.specs.ElementLaws.{dec_enc}
use Rattle.gkr.specs.Run.{Transcript, Frac}
use Rattle.gkr.specs.Transcripts.{Words, empty, Source}
use Rattle.gkr.specs.Sizes.{proof_bytes, log_words}
use Rattle.gkr.specs.Tests.{fail}
use Rattle.gkr.specs.Tree as Tree
use Rattle.gkr.specs.Gkr as Gkr
use Rattle.gkr.specs.Gkr.{done, accepted}
use Rattle.gkr.proofs.Honest as Honest
use Rattle.gkr.proofs.Count as Count
use Rattle.gkr.proofs.TranscriptLaws as TranscriptLaws
use Rattle.transcript.specs.Log.{Drawing}
use Rattle.transcript.specs.Bound.{bound}
use Rattle.transcript.specs.Source as Source
use Rattle.sizes.specs.SizeLaws.{counted}
use Rattle.wire.specs.Words.{all_canonical}
use Rattle.stored.specs.Layout.{layout, proof_words}
use Rattle.stored.specs.ParseLaws.{Answered, parse_reads}
use Rattle.stored.proofs.RoundTrip.{write_read}
use Rattle.stored.specs.Elements.{encoded, decoded, over_zero}
use Rattle.prover_tree.specs.Nodes.{node}
use Rattle.sizes.specs.Sizes.{needed_words, log_room}
use Rattle.refusal.specs.declared.Verifying.{Verifying}
use Rattle.refusal.specs.Tests.{passed, first_of}
use Rattle.prover_gate.specs.Refusals.{Call}
use Rattle.prover.specs.Proved as Prover
use Rattle.prover.specs.Companions.{in_mode, Sound}
use Rattle.verifier.specs.Verified as Verifier
use Rattle.verifier.specs.Verified.{Lent}
use Rattle.verifier.proofs.GateLaws.{opens_all}
use Rattle.verifier.proofs.NoRounds.{all_alike}
use Rattle.agreement.specs.Demand3.{Taken, root, Room, verdict, Agreed, Demand3}
use Rattle.agreement.specs.Companions.{OtherSum, ProvedLive}
use Rattle.stored.proofs.ElementLaws.{decoded_encoded, encoded_canonical, root_nil}
use Rattle.roots.proofs.Rows.{rows_and_sum}
use Rattle.roots.proofs.Live.{live_root}
use Rattle.agreement.proofs.HonestSize.{honest_size}
use Rattle.agreement.proofs.Opening.{opens, rounds_taken_are}

-- where the challenges of n rounds come from
abbrev pub source_of : (c : Call) (n : ℕ) → Source E.Ext
source_of c n = Source.source c.modes.drawn (take (needed_words c.modes.drawn n) c.challenges)

-- a verifier that draws where the prover does; whether 0 rounds are valid is nothing to it
abbrev pub like : (c : Call) (live : Bool) → Verifying
like c live = record { live = live; drawn = c.modes.drawn; empty = false }

-- The run over a sheet that is taken, zero asserted or not: t is the log before root q.
module _ (c : Call) (live : Bool) (m : ℕ) (b : Prover.Buffers) (v : Lent) (h : Taken c (suc m)) (r : Room c.modes.assert_zero c.modes.sized (suc m) b v) (sound : live ≡ true → Sound c.rows) where
  abbrev how : Verifying
  how = like c live

  abbrev rows : ℕ → Frac E.Ext
  rows = node c.rows

  abbrev source : Source E.Ext
  source = source_of c (suc m)

  abbrev S : Transcript E.Ext
  S = Drawing source

  -- the log that both sides begin with
  abbrev begin : Words
  begin = bound c.modes.sized (suc m) empty

  abbrev ended : Lent → Gkr.Verdict Extension S → Verifier.Outcome
  ended v w = Verifier.laid (Verifier.ended source w) v

  module _ (t : Words) (e : Gkr.fractional_sumcheck Extension S c.modes.assert_zero m rows begin ≡ done (Gkr.run Extension S m rows t)) where
    abbrev run : Gkr.Proved Extension S
    run = Gkr.run Extension S m rows t

    -- the prover is done with the model's run
    pub proved_run : Prover.proved c b ≡ Prover.laid (Prover.finished source c.modes.sized (suc m) run) b
    unfolding Prover.proved Prover.fronts
    proved_run =
        ap (λ t. Prover.laid (Prover.entered c t) b) (opens c m b v h r)
        ∙ ap (λ (n : ℕ). Prover.laid (Prover.ran c.rows c.modes c.challenges n) b) (rounds_taken_are c m b v h r)
        ∙ ap (λ a. Prover.laid (Prover.after source c.modes.sized (suc m) a) b) e

    abbrev bytes : List ℕ
    bytes = layout c.modes.sized (encoded run.proof)

    -- the front of its proof buffer is the proof's layout
    pub front : take (proof_bytes (suc m)) (Prover.proved c b).buffers.proof ≡ bytes
    front =
        ap (λ o. take (proof_bytes (suc m)) o.buffers.proof) proved_run
        ∙ take_at bytes (drop (length bytes) b.proof) (proof_bytes (suc m)) (honest_size S m rows t c.modes.sized)

    pub back : Answered bytes c.modes.sized (encoded run.proof)
    back = parse_reads bytes c.modes.sized (encoded run.proof) (write_read c.modes.sized (encoded run.proof))

    -- there are rounds
    some : eqb (suc m) 0 ≡ false
    some = ne_eqb (suc m) 0 (λ z. omega arith)

    -- no row is over zero where the verifier is live, and so the root is not
    root_passes : (x : Bool) → (how.live && Verifier.rootless bytes (suc m)) ≡ x → x ≡ false
    unfolding Gkr.run
    root_passes true e =
        let l = (and-eq-true_iff how.live (Verifier.rootless bytes (suc m))).0 e in
        let k = ((and-eq-true_iff (not (eqb (suc m) 0)) (Verifier.counted bytes (suc m) && over_zero bytes)).0 l.1).1 in
        let z = ((and-eq-true_iff (Verifier.counted bytes (suc m)) (over_zero bytes)).0 k).1 in
        let q = ap (λ π. (decoded π).q0) back.proof ∙ dec_enc (root c (suc m)).q in
        absurd ((rows_and_sum c.rows (suc m) (counted c.rows (suc m) h.rows)).0 (sound l.0) (sym q ∙ root_nil bytes z))
    root_passes false e = refl

    pub opened_run : first_of (Verifier.tests (Verifier.asked bytes (suc m) how c.challenges) (length v.point) (length v.log)) ≡ passed
    opened_run =
        let canon = ap (λ π. all_canonical (proof_words π)) back.proof ∙ encoded_canonical run.proof in
        opens_all (Verifier.asked bytes (suc m) how c.challenges) _ _ back.reads
        (record { some = ap (λ x. x && true) some; few = h.few; chals = h.enough; room = r.point_again; log_room_fits = subst (λ s. log_room true s (suc m) ≤ length v.log) (sym back.sized) r.log_again; canon = canon; clean = h.valid_challenges }) (root_passes _ refl)

    -- which the verifier reads as that proof
    verified_run : Verifier.verified (Verifier.asked bytes (suc m) how c.challenges) v ≡ ended v (Gkr.verify_gkr Extension S (suc m) run.proof begin)
    unfolding Verifier.verified
    verified_run =
        ap (λ w. Verifier.laid (Verifier.fronts (Verifier.asked bytes (suc m) how c.challenges) w) v) opened_run
        ∙ ap (λ f. Verifier.laid f v) (fail (eqb (suc m) 0) _ _ some)
        ∙ ap₂ (λ s π. ended v (Gkr.verify_gkr Extension S (suc m) (decoded π) (bound s (suc m) empty))) back.sized back.proof
        ∙ ap (λ π. ended v (Gkr.verify_gkr Extension S (suc m) π begin)) (decoded_encoded run.proof)

    pub verdict_run : verdict c how (suc m) (Prover.proved c b) v ≡ ended v (Gkr.verify_gkr Extension S (suc m) run.proof begin)
    verdict_run = ap (λ bs. Verifier.verified (Verifier.asked bs (suc m) how c.challenges) v) front ∙ verified_run

    pub sum_run : (Prover.proved c b).answer ≡ Prover.summed (suc m) (Prover.enc_frac (root c (suc m)))
    unfolding Gkr.run
    sum_run = ap (λ o. o.answer) proved_run

-- ZERO ASSERTED, AND THE ROOT NUMERATOR ZERO

-- the log begins with the size, or with nothing
begun_words : (sized : Bool) (m : ℕ) → length (bound sized (suc m) empty).log + log_words true (suc m) ≡ log_room true sized (suc m)
begun_words true m = refl
begun_words false m = refl

module _ (c : Call) (live : Bool) (m : ℕ) (b : Prover.Buffers) (v : Lent) (h : Taken c (suc m)) (a : c.modes.assert_zero ≡ true) (z : (root c (suc m)).p ≡ E.nil) (r : Room true c.modes.sized (suc m) b v)
    (sound : live ≡ true → Sound c.rows) where
  abbrev ch : Source E.Ext
  ch = source_of c (suc m)

  abbrev start : Words
  start = bound c.modes.sized (suc m) empty

  abbrev P : Gkr.Proved Extension (Drawing ch)
  P = Gkr.run Extension (Drawing ch) m (node c.rows) start

  theorem : (Gkr.fractional_sumcheck Extension (Drawing ch) true m (node c.rows) start ≡ done P)
      × (Gkr.verify_gkr Extension (Drawing ch) (suc m) P.proof start ≡ accepted (Tree.value ExtRing (node c.rows) P.point) P.point P.log)
  theorem = Honest.honest Extension (Drawing ch) m (node c.rows) start z

  pub is_done : Gkr.fractional_sumcheck Extension (Drawing ch) c.modes.assert_zero m (node c.rows) start ≡ done P
  is_done = ap (λ s. Gkr.fractional_sumcheck Extension (Drawing ch) s m (node c.rows) start) a ∙ theorem.0

  pub r' : Room c.modes.assert_zero c.modes.sized (suc m) b v
  r' = subst (λ s. Room s c.modes.sized (suc m) b v) (sym a) r

  run_is : Prover.proved c b ≡ Prover.laid (Prover.finished ch c.modes.sized (suc m) P) b
  run_is = proved_run c live m b v h r' sound start is_done

  verdict_is : verdict c (like c live) (suc m) (Prover.proved c b) v ≡ Verifier.laid (Verifier.ended ch (accepted (Tree.value ExtRing (node c.rows) P.point) P.point P.log)) v
  verdict_is = verdict_run c live m b v h r' sound start is_done ∙ ap (λ w. Verifier.laid (Verifier.ended ch w) v) theorem.1

  pub agreed : Agreed c (suc m) b v (Prover.proved c b) (verdict c (like c live) (suc m) (Prover.proved c b) v)
  agreed =
      record {
        point = P.point;
        logged = P.log.log;
        done = sum_run c live m b v h r' sound start is_done;
        accepted = ap (λ o. o.answer) verdict_is;
        coordinates = Count.point_length Extension (Drawing ch) m (node c.rows) start;
        proved_point = ap (λ o. o.buffers.point) run_is;
        verified_point = ap (λ o. o.buffers.point) verdict_is;
        size = TranscriptLaws.done_words Extension words _ (λ x. refl) true m (node c.rows) start P theorem.0 ∙ begun_words c.modes.sized m;
        proved_log = ap (λ o. o.buffers.log) run_is;
        verified_log = ap (λ o. o.buffers.log) verdict_is;
      }

none : (n : ℕ) → n ≡ 0 → 1 ≤ n → ⊥
none n e h = omega arith

pub alike : (c : Call) (how : Verifying) (m : ℕ) (P : Prover.Outcome) (v : Lent) → how.drawn ≡ c.modes.drawn → verdict c how (suc m) P v ≡ verdict c (like c how.live) (suc m) P v
alike c how m P v d =
    ap (λ x. verdict c (record { live = how.live; drawn = x; empty = how.empty }) (suc m) P v) d
    ∙ all_alike (Verifier.asked (take (proof_bytes (suc m)) P.buffers.proof) (suc m) (like c how.live) c.challenges) (λ z. omega arith) v how.empty false

-- THE THEOREM
pub demand_3 : Demand3
demand_3 c how zero b v h d a z r sound = absurd (none 0 refl h.some)
demand_3 c how (suc m) b v h d a z r sound =
    subst (λ Q. Agreed c (suc m) b v (Prover.proved c b) Q) (sym (alike c how m (Prover.proved c b) v d)) (agreed c how.live m b v h a z r sound)

-- ANOTHER SUM, NOT ASSERTED

differs : (x : E.Ext) → (x ≡ E.nil → ⊥) → E.same x E.nil ≡ false
differs x h = go (E.same x E.nil) refl
  where
    go : (s : Bool) → E.same x E.nil ≡ s → E.same x E.nil ≡ false
    go true e = absurd (h (same_true x E.nil e))
    go false e = e

pub other_sum : OtherSum
unfolding Gkr.fractional_sumcheck
other_sum c how zero b v h d a z r sound = absurd (none 0 refl h.some)
other_sum c how (suc m) b v h d a z r sound =
    let ch = source_of c (suc m) in
    let f = node c.rows in
    let start = bound c.modes.sized (suc m) empty in
    let t = (Drawing ch).observe (root c (suc m)).p start in
    let e : Gkr.fractional_sumcheck Extension (Drawing ch) c.modes.assert_zero m f start ≡ done (Gkr.run Extension (Drawing ch) m f t) =
    ap (λ s. Gkr.fractional_sumcheck Extension (Drawing ch) s m f start) a in
    let r' : Room c.modes.assert_zero c.modes.sized (suc m) b v = subst (λ s. Room s c.modes.sized (suc m) b v) (sym a) r in
    let n = Honest.not_zero Extension (Drawing ch) m f t start (differs (root c (suc m)).p z) in
    (sum_run c how.live m b v h r' sound t e, ap (λ o. o.answer) (alike c how m (Prover.proved c b) v d) ∙ ap (λ o. o.answer) (verdict_run c how.live m b v h r' sound t e ∙ ap (λ w. Verifier.laid (Verifier.ended ch w) v) n))

-- PROVED LIVE

pub proved_live : ProvedLive
proved_live c b n s h d = (live_root c b n s (subst (λ l. (Prover.proved (in_mode l c) b).answer ≡ Prover.summed n s) h d)).0
