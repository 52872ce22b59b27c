-- Prover and verifier one after the other: each way through is `together`, and demand 3 holds of it.
-- Assumes nothing.
use mathlib.Core.Path.{◌≡◌, refl, sym, ◌∙◌, ap, subst}
use mathlib.Core.Bool.{true}
use mathlib.Core.List.{List}
use Prim.Native.Nat.{ℕ, ◌≤◌}
use native.Mathlib.Omega.{arith}
use lib.ListN.{length, take, length-take}
use Rattle.field.specs.Ext as E
use Rattle.gkr.specs.Sizes.{proof_bytes}
use Rattle.transcript.specs.declared.Used.{Used}
use Rattle.transcript.specs.Used.{unused}
use Rattle.refusal.specs.Limits.{max_rounds}
use Rattle.refusal.specs.Tests.{Tested, passed, refused}
use Rattle.refusal.specs.declared.Refusal.{Refusal}
use Rattle.sizes.specs.Sizes.{row_count, rounds_of}
use Rattle.refusal.specs.declared.Verifying.{Verifying}
use Rattle.prover_gate.specs.Refusals.{Call, first_refusal}
use Rattle.prover.specs.Proved as Prover
use Rattle.prover.specs.Companions.{Sound}
use Rattle.prover.specs.Proved.{Buffers, rooms_of, entered, fronts, proved}
use Rattle.prover.proofs.Theorems.{Ends, each_end, done_refused, same_rounds}
use Rattle.prover.specs.declared.Done.{Done}
use Rattle.prover.proofs.Opening.{gate_opens}
use Rattle.prover.proofs.UsedUp.{using_up}
use Rattle.verifier.specs.Verified as Verifier
use Rattle.verifier.specs.Verified.{Lent}
use Rattle.verifier.specs.declared.Ending.{Ending}
use Rattle.std.specs.Prelude.{Result, Ok, Err}
use Rattle.agreement.specs.Demand3.{Taken, root, Room}
use Rattle.agreement.specs.Together.{Joined, follow, through, together, joined, Agrees}
use Rattle.sizes.specs.SizeLaws.{few_rounds}
use Rattle.agreement.proofs.Agreeing.{demand_3}

-- WHAT DONE TELLS: the gate was open, and n is the rounds of the rows

module _ (c : Call) (b : Buffers) (d : Done) where
  pub record Admitted : Type 0 where
    pub opened : first_refusal c (rooms_of b) ≡ passed
    pub rounds : d.rounds ≡ rounds_of (row_count c.rows)

  rounds_told : (k : ℕ) → Ends (λ f. f.answer ≡ Ok d → d.rounds ≡ k) k
  rounds_told k = record { finishes = λ ch v P h. sym (same_rounds h); eight = λ h. absurd (done_refused _ _ _ (sym h)); nine = λ h. absurd (done_refused _ _ _ (sym h)) }

  admitted : (proved c b).answer ≡ Ok d → Admitted
  unfolding proved fronts
  admitted h = go (first_refusal c (rooms_of b)) refl h
    where
      go : (t : Tested) → first_refusal c (rooms_of b) ≡ t → (entered c t).answer ≡ Ok d → Admitted
      go passed e k =
          let N = rounds_of (row_count c.rows) in
          record { opened = e; rounds = each_end (λ f. f.answer ≡ Ok d → d.rounds ≡ N) c.rows c.modes c.challenges N (rounds_told N) k }
      go (refused r) e k = absurd (done_refused _ _ r (sym k))

-- so n is within the limit, and the proof's bytes are there
module _ (c : Call) (b : Buffers) {d : Done} {pb : Buffers} {r : Result Done Refusal} {u : Used} (e : ◌≡◌ {A = Prover.Outcome} (record { answer = r; used = u; buffers = pb }) (proved c b)) (h : r ≡ Ok d) where
  told : Admitted c b d
  told = admitted c b d (sym (ap (λ o. o.answer) e) ∙ h)

  pub done_few : d.rounds ≤ max_rounds
  done_few = subst (λ (k : ℕ). k ≤ max_rounds) (sym told.rounds) (few_rounds (row_count c.rows))

  pub done_there : {size k : ℕ} → size ≡ proof_bytes d.rounds → k ≡ length b.proof → size ≤ k
  done_there {size} {k} h l =
      let o = gate_opens c (rooms_of b) told.opened in
      let t : proof_bytes d.rounds ≤ length b.proof = subst (λ (k : ℕ). proof_bytes k ≤ length b.proof) (sym told.rounds) o.proof in
      rw (h, l) t

-- the front of a list that is long enough
pub all_taken : (k : ℕ) (l : List ℕ) → k ≤ length l → k ≡ length (take k l)
all_taken k l h = simp length-take (omega arith)

-- EACH WAY THROUGH

module _ (c : Call) (how : Verifying) (b : Buffers) (v : Lent) where
  -- a prover that refuses has used up nothing
  unused_up : (e : Refusal) → (proved c b).answer ≡ Err e → (proved c b).used ≡ unused
  unfolding proved
  unused_up e h = (using_up c (rooms_of b)).none e h

  module _ {pb : Buffers} {r : Result Done Refusal} {u : Used} (h : ◌≡◌ {A = Prover.Outcome} (record { answer = r; used = u; buffers = pb }) (proved c b)) where
    pub joined_refused : {e : Refusal} → r ≡ Err e → joined (Err e) pb v ≡ together c how b v
    unfolding together
    joined_refused {e} d =
        let n : u ≡ unused = ap (λ o. o.used) h ∙ unused_up e (sym (ap (λ o. o.answer) h) ∙ d) in
        ap (λ x. follow c how v (record { answer = Err e; used = x; buffers = pb }) (Err e)) (sym n)
        ∙ ap (λ a. follow c how v (record { answer = a; used = u; buffers = pb }) a) (sym d)
        ∙ ap (λ o. follow c how v o o.answer) h

    pub joined_proved : {d : Done} {w : Ending} {pt lg : List ℕ} {size : ℕ} → r ≡ Ok d
        → size ≡ proof_bytes d.rounds → Verifier.outcome w.verdict w.used pt lg ≡ Verifier.verified (Verifier.asked (take size pb.proof) d.rounds how c.challenges) v
        → joined (Ok (record { done = d; used = u; verified = w })) pb (Verifier.lent pt lg) ≡ together c how b v
    unfolding together
    joined_proved {d} e k q =
        ap (through (record { answer = Ok d; used = u; buffers = pb })) (q ∙ ap (λ (j : ℕ). Verifier.verified (Verifier.asked (take j pb.proof) d.rounds how c.challenges) v) k)
        ∙ ap (λ a. follow c how v (record { answer = a; used = u; buffers = pb }) a) (sym e)
        ∙ ap (λ o. follow c how v o o.answer) h

  -- DEMAND 3
  pub agrees : (j : Joined) → j ≡ together c how b v → (n : ℕ) → Taken c n → how.drawn ≡ c.modes.drawn → c.modes.assert_zero ≡ true → (root c n).p ≡ E.nil → Room true c.modes.sized n b v → (how.live ≡ true → Sound c.rows) → Agrees c n b v j
  unfolding together
  agrees j e n h d a z r s =
      let A = demand_3 c how n b v h d a z r s in
      subst (Agrees c n b v) (sym e) (subst (λ w. Agrees c n b v (follow c how v (proved c b) w)) (sym A.done) A)
