-- A row over zero: the proof of such a sheet has both counts right and a q0 of zero, so that a live verifier refuses it by 27.
-- Assumes nothing.
use mathlib.Core.Path.{◌≡◌, sym, ◌∙◌, ap, subst}
use mathlib.Core.Bool.{true, false, false≢true}
use mathlib.Core.List.{map}
use mathlib.Core.Logic.{⊎_elim}
use Prim.Native.Nat.{ℕ, zero, suc}
use native.Mathlib.Omega.{arith}
use lib.ListN.{length, length-map}
use Rattle.field.specs.Ext as E
use Rattle.field.specs.Element.{enc}
use Rattle.field.specs.ElementLaws.{dec_enc}
use Rattle.field.specs.Extension.{Extension}
use Rattle.gkr.specs.Run.{Transcript, Proof}
use Rattle.gkr.specs.Transcripts.{Words, empty}
use Rattle.gkr.proofs.Count as Count
use Rattle.gkr.specs.Gkr as Gkr
use Rattle.gkr.specs.Gkr.{done}
use Rattle.transcript.specs.Log.{Drawing}
use Rattle.transcript.specs.Bound.{bound}
use Rattle.refusal.specs.declared.Verifying.{Verifying}
use Rattle.refusal.specs.declared.Refusal.TheVariants.{ZeroRoot}
use Rattle.stored.specs.Layout.{layout}
use Rattle.stored.specs.Parse.{count_of_layers, count_of_entries, proof_of}
use Rattle.stored.specs.ParseLaws.{claims_count, entries_count}
use Rattle.stored.specs.Elements.{decoded, encoded, map_claims, map_cubic}
use Rattle.sizes.specs.SizeLaws.{counted}
use Rattle.prover_tree.specs.Nodes.{node}
use Rattle.prover_gate.specs.Refusals.{Call}
use Rattle.prover.specs.Proved as Prover
use Rattle.prover.specs.Companions.{Sound, Lowest}
use Rattle.roots.specs.Roots.{OverZero}
use Rattle.roots.proofs.Rows.{lowest_or_sound, lowest_sum}
use Rattle.std.specs.Prelude.{Err}
use Rattle.verifier.specs.Verified as Verifier
use Rattle.verifier.specs.Verified.{Lent}
use Rattle.verifier.specs.Companions.{ZeroRooted}
use Rattle.verifier.proofs.Modes.{live_verifying}
use Rattle.agreement.specs.Demand3.{Taken, root, Room, verdict}
use Rattle.agreement.specs.Companions.{RowOverZero}
use Rattle.agreement.proofs.Agreeing.{source_of, like, alike, front, back, opened_run, is_done, r'}

-- The run over a sheet that is taken, zero asserted or not, as in `Agreeing`: t is the log before root q.
module _ (c : Call) (m : ℕ) (b : Prover.Buffers) (v : Lent) (h : Taken c (suc m)) (r : Room c.modes.assert_zero c.modes.sized (suc m) b v) where
  abbrev S : Transcript E.Ext
  S = Drawing (source_of c (suc m))

  -- the sandbox asks nothing of the rows
  none : false ≡ true → Sound c.rows
  none e = absurd (false≢true e)

  module _ (t : Words) (e : Gkr.fractional_sumcheck Extension S c.modes.assert_zero m (node c.rows) (bound c.modes.sized (suc m) empty) ≡ done (Gkr.run Extension S m (node c.rows) t)) where
    abbrev π : Proof E.Ext
    π = (Gkr.run Extension S m (node c.rows) t).proof

    abbrev asked : Verifier.Asked
    asked = Verifier.asked (layout c.modes.sized (encoded π)) (suc m) (like c false) c.challenges

    -- the proof that the bytes are of
    is : proof_of asked.proof ≡ encoded π
    is = (back c false m b v h r none t e).proof

    rooted : OverZero c.rows (suc m) → ZeroRooted asked
    unfolding Gkr.run
    rooted over =
        record {
          some = omega arith;
          layers = sym (claims_count (count_of_layers asked.proof) _) ∙ ap (λ p. length p.claims) is ∙ length-map π.claims (map_claims enc) ∙ Count.claims_length Extension S m (node c.rows) t;
          entries = sym (entries_count (count_of_entries asked.proof) _) ∙ ap (λ p. length p.polys) is ∙ length-map π.polys (map (map_cubic enc)) ∙ (Count.send_counts Extension S (node c.rows) m _ _).1 ∙ omega arith;
          q0 = ap (λ p. (decoded p).q0) is ∙ dec_enc (root c (suc m)).q ∙ over;
        }

    pub refused_live : (how : Verifying) → how.live ≡ true → how.drawn ≡ c.modes.drawn → OverZero c.rows (suc m) → (verdict c how (suc m) (Prover.proved c b) v).answer ≡ Err ZeroRoot
    refused_live how l d over =
        ap (λ o. o.answer) (alike c how m (Prover.proved c b) v d)
        ∙ ap (λ x. (verdict c (like c x) (suc m) (Prover.proved c b) v).answer) l
        ∙ ap (λ bs. (Verifier.verified (Verifier.asked bs (suc m) (like c true) c.challenges) v).answer) (front c false m b v h r none t e)
        ∙ (live_verifying asked v).given.1 (opened_run c false m b v h r none t e, rooted over)

-- THE THEOREM
pub row_over_zero : RowOverZero
row_over_zero c how zero b v h l d a z r s = absurd (let k = h.some in omega arith)
row_over_zero c how (suc m) b v h l d a z r s =
    let n = none c m b v h (subst (λ x. Room x c.modes.sized (suc m) b v) (sym a) r) in
    refused_live c m b v h (r' c false m b v h a z r n) (bound c.modes.sized (suc m) empty) (is_done c false m b v h a z r n) how l d
    (⊎_elim (λ (l : (i : ℕ) × Lowest c.rows i). lowest_sum c.rows (suc m) (counted c.rows (suc m) h.rows) l.0 l.1) (λ (k : Sound c.rows). absurd (s k)) (lowest_or_sound c.rows))
