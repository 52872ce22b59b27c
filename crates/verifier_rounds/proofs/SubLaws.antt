-- The loop over the sub-rounds of a round.
-- Assumes nothing.
use mathlib.Core.Path.{◌≡◌, refl, sym, ◌∙◌, ap, subst}
use mathlib.Core.List.{List, [], ◌∷◌, ◌++◌, append_assoc, append-nil, map}
use Prim.Native.Nat.{ℕ, suc, ◌+◌, ◌*◌, ◌-◌, ◌<◌, ◌≤◌}
use native.Mathlib.Omega.{arith}
use lib.ListN.{length, drop}
use Rattle.field.specs.Ext as E
use Rattle.field.specs.Extension.{Extension}
use Rattle.field.specs.Element.{dec}
use Rattle.field.specs.Cells.{cells}
use Rattle.wire.specs.Words.{all_canonical}
use Rattle.gkr.specs.Transcripts.{Source}
use Rattle.stored.specs.Layout.{cubics_words}
use Rattle.stored.specs.Parse.{cubic_of, cubics_from}
use Rattle.stored.specs.ParseLaws.{cubics_step}
use Rattle.gkr.specs.Sumcheck as Sumcheck
use Rattle.transcript.specs.Log.{Drawing, State, log_of}
use Rattle.transcript.proofs.Logs.{then, retold}
use Rattle.verifier_round.specs.declared.Sums.{Sums}
use Rattle.stored.specs.ReadWords.{CanonCubic}
use Rattle.verifier_round.specs.Values.{dec_cubic}
use Rattle.verifier_round.specs.Points.{ahead}
use Rattle.verifier_round.specs.Rounds.{told, SubChecked}
use Rattle.verifier_round.proofs.Points.{ahead_next, grown}
use Rattle.verifier_rounds.specs.Runs.{cubics_at, summing, Summed, Summing}
use Rattle.verifier_rounds.proofs.Messages.{cubic_first, cubics_rest}

-- the model's next sub-round is the one that the code made
one_sub : (bs pt pt' : List ℕ) (t t' : State) (ch : Source E.Ext) (at j n : ℕ) (s r : Sums) → SubChecked pt pt' t t' ch j (dec_cubic (cubic_of (drop at bs))) s r
    → summing bs pt t ch at j (suc n) s
    ≡ record {
      claim = (summing bs pt' t' ch (at + 48) (j + 1) n r).claim;
      point = ch (told (dec_cubic (cubic_of (drop at bs))) t) ∷ (summing bs pt' t' ch (at + 48) (j + 1) n r).point;
      eq = (summing bs pt' t' ch (at + 48) (j + 1) n r).eq;
      log = (summing bs pt' t' ch (at + 48) (j + 1) n r).log;
    }
unfolding Sumcheck.verify_gkr_sumcheck
one_sub bs pt pt' t t' ch at j n s r h =
    let x = ch (told (dec_cubic (cubic_of (drop at bs))) t) in
    let z : cells pt (suc j) n ≡ ahead (dec r.xi) pt' (j + 1) n = ahead_next pt pt' j n (dec r.xi) x h.xi.value h.rho in
    let same : Sumcheck.verify_gkr_sumcheck Extension (Drawing ch) (cubics_at bs (at + 48) n) (cells pt (suc j) n) _ _ _ ≡ summing bs pt' t' ch (at + 48) (j + 1) n r =
    (λ i. Sumcheck.verify_gkr_sumcheck Extension (Drawing ch) (cubics_at bs (at + 48) n) (z i) (sym h.claim.value i) (sym h.eq.value i) (sym h.steps.log i)) in
    ap (λ ms. Sumcheck.verify_gkr_sumcheck Extension (Drawing ch) (map dec_cubic ms) (ahead (dec s.xi) pt j (suc n)) (dec s.claim) (dec s.eq) (log_of t)) (cubics_step n at bs)
    ∙ (λ i. record { claim = (same i).claim; point = x ∷ (same i).point; eq = (same i).eq; log = (same i).log })

module _ {bs pt₀ pt : List ℕ} {t₀ t : State} {ch : Source E.Ext} {from at k j : ℕ} {s₀ s : Sums} (i : Summing bs pt₀ pt t₀ t ch from at k j s₀ s) where
  pub sub_canon : j < k → CanonCubic (cubic_of (drop at bs))
  sub_canon h =
      let e : k - j ≡ suc (k - (j + 1)) = omega arith in
      cubic_first (k - (j + 1)) at bs (ap (λ n. all_canonical (cubics_words (cubics_from n (drop at bs)))) (sym e) ∙ i.words)

  sub_turn : {pt' : List ℕ} {t' : State} {r : Sums} → j < k → length pt' ≡ length pt → SubChecked pt pt' t t' ch j (dec_cubic (cubic_of (drop at bs))) s r → Summing bs pt₀ pt' t₀ t' ch from (at + 48) k (j + 1) s₀ r
  sub_turn {pt'} {t'} {r} h p d =
      let e : k - j ≡ suc (k - (j + 1)) = omega arith in
      let n = k - (j + 1) in
      let x = ch (told (dec_cubic (cubic_of (drop at bs))) t) in
      let o = ap (λ n. summing bs pt t ch at j n s) e ∙ one_sub bs pt pt' t t' ch at j n s r d in
      record {
        upto = omega arith;
        place = omega (arith, i.place);
        claim = sym (ap (λ C. C.claim) o) ∙ i.claim;
        eq = sym (ap (λ C. C.eq) o) ∙ i.eq;
        point =
            ap (λ u. u ++ (summing bs pt' t' ch (at + 48) (j + 1) n r).point) (grown pt pt' j x d.rho)
            ∙ append_assoc (cells pt 1 j) (x ∷ []) (summing bs pt' t' ch (at + 48) (j + 1) n r).point ∙ ap (λ u. cells pt 1 j ++ u) (sym (ap (λ C. C.point) o)) ∙ i.point;
        log = sym (ap (λ C. C.log) o) ∙ i.log;
        steps = retold (omega arith) refl (sym d.steps.log) (then i.steps d.steps);
        canon = record { claim = d.claim.canon; eq = d.eq.canon; xi = d.xi.canon };
        words = cubics_rest n at bs (ap (λ n. all_canonical (cubics_words (cubics_from n (drop at bs)))) (sym e) ∙ i.words);
        clean = d.rho.clean;
        points = p ∙ i.points;
      }

  -- at the place that the next sub-round is read from
  pub sub_next : {at' : ℕ} {pt' : List ℕ} {t' : State} {r : Sums} → at + 48 ≡ at' → j < k → length pt' ≡ length pt → SubChecked pt pt' t t' ch j (dec_cubic (cubic_of (drop at bs))) s r
      → Summing bs pt₀ pt' t₀ t' ch from at' k (j + 1) s₀ r
  sub_next {at'} {pt'} {t'} {r} e h p d = subst (λ a. Summing bs pt₀ pt' t₀ t' ch from a k (j + 1) s₀ r) e (sub_turn h p d)

  pub sub_end : k ≤ j → Summed bs pt₀ pt t₀ t ch from k s₀ s
  unfolding Sumcheck.verify_gkr_sumcheck cubics_from
  sub_end h =
      let z : k - j ≡ 0 = omega (arith, i.upto) in
      let e : j ≡ k = omega (arith, i.upto) in
      let none : summing bs pt t ch at j (k - j) s ≡ record { claim = dec s.claim; point = []; eq = dec s.eq; log = log_of t } = ap (λ n. summing bs pt t ch at j n s) z in
      record {
        claim = record { canon = i.canon.claim; value = sym (ap (λ C. C.claim) none) ∙ i.claim };
        eq = record { canon = i.canon.eq; value = sym (ap (λ C. C.eq) none) ∙ i.eq };
        point = ap (cells pt 1) (sym e) ∙ sym (append-nil (cells pt 1 j)) ∙ ap (λ u. cells pt 1 j ++ u) (sym (ap (λ C. C.point) none)) ∙ i.point;
        steps = retold (ap (λ n. 16 * n) e) e (sym (ap (λ C. C.log) none) ∙ i.log) i.steps;
        xi = i.canon.xi;
        clean = i.clean;
      }
