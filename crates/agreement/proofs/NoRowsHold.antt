-- No rows, proved: the prover is done in every mode, and its 23 bytes pass every test of a verifier to which 0 rounds are valid.
-- Assumes nothing.
use mathlib.Core.Path.{◌≡◌, refl, sym, ◌∙◌, ap, ap₂, subst}
use mathlib.Core.Bool.{Bool, true, false, not, ◌&&◌, ◌||◌}
use mathlib.Core.List.{List, []}
use Prim.Native.Nat.{ℕ, ◌≤◌}
use native.Mathlib.Omega.{arith}
use borrow.Author.Tests.{le-ltb}
use lib.Dec.{ltb}
use lib.ListN.{length, take, drop}
use lib.Seq.{take_at}
use Rattle.field.specs.Ext as E
use Rattle.field.specs.ExtRing.{arithmetic}
use Rattle.field.specs.Element.{enc, words_of_point}
use Rattle.field.specs.Extension.{Extension}
use Rattle.gkr.specs.Run.{Proof}
use Rattle.gkr.specs.Transcripts.{empty}
use Rattle.gkr.specs.Compute.{model}
use Rattle.gkr.specs.Sizes.{proof_bytes}
use Rattle.gkr.specs.Gkr as Gkr
use Rattle.transcript.specs.Source.{supplied}
use Rattle.transcript.specs.Log.{Drawing}
use Rattle.transcript.specs.Used.{unused}
use Rattle.refusal.specs.declared.Proving.{Proving}
use Rattle.refusal.specs.declared.Verifying.{Verifying}
use Rattle.refusal.specs.Tests.{passed, first_of}
use Rattle.refusal.specs.TestLaws.{all_passed}
use Rattle.refusal.specs.TestWays.{both}
use Rattle.sizes.specs.Sizes.{rounds_from, is_size, needed_words}
use Rattle.wire.specs.Words.{all_canonical}
use Rattle.wire.specs.Bytes.{bytes_of, word}
use Rattle.stored.specs.Layout.{claims_words, polys_words, entries_bytes, layout}
use Rattle.stored.specs.Parse.{known, claims_from, entries_from, entries_fit, fits}
use Rattle.stored.specs.Elements.{encoded}
use Rattle.prover_gate.specs.Refusals.{Call, call, short_room, lowest, tests, first_refusal}
use Rattle.prover.specs.Proved as Prover
use Rattle.std.specs.Prelude.{Ok}
use Rattle.verifier.specs.Verified as Verifier
use Rattle.verifier.specs.Verified.{Lent}
use Rattle.agreement.specs.Companions.{AgreedOnNone, NoRows}

-- no challenge is needed, and any room is enough for none
no_need : (drawn : Bool) → needed_words drawn 0 ≡ 0
no_need true = refl
no_need false = refl

enough : (k : ℕ) → ltb k 0 ≡ false
enough k = le-ltb k 0 (omega arith)

never : (b : Bool) → (b && false) ≡ false
never true = refl
never false = refl

-- THE PROVER

abbrev proof : Proof E.Ext
proof = (Gkr.no_rows Extension (Drawing (supplied [])) empty).proof

abbrev bytes : (sized : Bool) → List ℕ
bytes sized = layout sized (encoded proof)

module _ (modes : Proving) (challenges : List ℕ) (b : Prover.Buffers) (r : proof_bytes 0 ≤ length b.proof) where
  abbrev none : Call
  none = call [] modes challenges

  opens : first_refusal none (Prover.rooms_of b) ≡ passed
  unfolding first_refusal rounds_from is_size short_room all_canonical lowest
  opens =
      all_passed (tests none (Prover.rooms_of b))
      (both refl
      (both refl
      (both refl
      (both (ap (ltb (length challenges)) (no_need modes.drawn) ∙ enough (length challenges))
      (both (ap₂ ◌||◌ (le-ltb (length b.proof) (proof_bytes 0) r) (ap₂ ◌||◌ (enough (length b.point)) (ap₂ ◌||◌ (enough (length b.log)) (enough (length b.work)))))
      (both refl
      (both (ap (λ k. not (all_canonical (take k challenges))) (no_need modes.drawn))
      (both (never modes.live) tt))))))))

  is_done : Prover.proved none b ≡ Prover.laid (Prover.finished (supplied []) modes.sized 0 (Gkr.no_rows Extension (Drawing (supplied [])) empty)) b
  unfolding Prover.proved Prover.fronts rounds_from
  is_done = ap (λ t. Prover.laid (Prover.entered none t) b) opens

  front : take (proof_bytes 0) (Prover.proved none b).buffers.proof ≡ bytes modes.sized
  unfolding layout bytes_of claims_words polys_words entries_bytes
  front = ap (λ o. take (proof_bytes 0) o.buffers.proof) is_done ∙ take_at (bytes modes.sized) (drop (length (bytes modes.sized)) b.proof) (proof_bytes 0) refl

-- THE VERIFIER

-- either version is read
is_known : (sized : Bool) → not (known (bytes sized)) ≡ false
unfolding layout
is_known true = refl
is_known false = refl

module _ (sized : Bool) (how : Verifying) (challenges : List ℕ) (v : Lent) (h : how.empty ≡ true) where
  abbrev given : Verifier.Asked
  given = Verifier.asked (bytes sized) 0 how challenges

  passes : first_of (Verifier.tests given (length v.point) (length v.log)) ≡ passed
  unfolding model arithmetic layout bytes_of word claims_words polys_words entries_bytes claims_from entries_from entries_fit fits all_canonical
  passes =
      all_passed (Verifier.tests given (length v.point) (length v.log))
      (both (ap not h)
      (both refl
      (both (ap (ltb (length challenges)) (no_need how.drawn) ∙ enough (length challenges))
      (both (is_known sized)
      (both (ap₂ ◌||◌ (enough (length v.point)) (enough (length v.log)))
      (both refl
      (both refl
      (both (ap (λ k. not (all_canonical (take k challenges))) (no_need how.drawn))
      (both (never how.live) tt)))))))))

  accepts : Verifier.verified given v ≡ Verifier.outcome (Ok (record { numer = enc E.nil; denom = enc E.one })) unused v.point v.log
  unfolding Verifier.verified first_of model arithmetic layout bytes_of word claims_words polys_words entries_bytes
  accepts = ap (λ t. Verifier.laid (Verifier.fronts given t) v) passes

-- THE THEOREM

without_rows : (modes : Proving) (challenges : List ℕ) (how : Verifying) (again : List ℕ) (b : Prover.Buffers) (v : Lent) → proof_bytes 0 ≤ length b.proof → how.empty ≡ true
    → let P = Prover.proved (call [] modes challenges) b in AgreedOnNone b v P (Verifier.verified (Verifier.asked (take (proof_bytes 0) P.buffers.proof) 0 how again) v)
unfolding words_of_point
without_rows modes challenges how again b v r h =
    let d = is_done modes challenges b r in
    record {
      done = ap (λ o. o.answer) d;
      point = ap (λ o. o.buffers.point) d;
      log = ap (λ o. o.buffers.log) d;
      accepted = ap (λ bs. Verifier.verified (Verifier.asked bs 0 how again) v) (front modes challenges b r) ∙ accepts modes.sized how again v h;
    }

pub no_rows : NoRows
no_rows c how again b v e r h =
    let q : call [] c.modes c.challenges ≡ c = (λ i. call (sym e i) c.modes c.challenges) in
    subst (λ k. let P = Prover.proved k b in AgreedOnNone b v P (Verifier.verified (Verifier.asked (take (proof_bytes 0) P.buffers.proof) 0 how again) v)) q (without_rows c.modes c.challenges how again b v r h)
