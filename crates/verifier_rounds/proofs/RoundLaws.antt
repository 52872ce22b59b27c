-- One round: its sub-rounds are the model's, and a wrong count of them stops it after lambda.
-- Assumes nothing.
use Rattle.std.specs.Prelude.{Result, Err}
use mathlib.Core.Path.{◌≡◌, refl, sym, ◌∙◌, ap, subst}
use mathlib.Core.Bool.{false}
use mathlib.Core.List.{List, [], ◌∷◌, map}
use Prim.Native.Nat.{ℕ, suc, ◌+◌, ◌*◌, ◌≤◌}
use native.Mathlib.Omega.{arith}
use borrow.Author.Tests.{ne_eqb}
use lib.Dec.{eqb}
use lib.ListN.{length, get_or, drop}
use Rattle.field.specs.Ext as E
use Rattle.field.specs.Extension.{Extension}
use Rattle.field.specs.Element.{dec}
use Rattle.field.specs.Cells.{cells}
use Rattle.field.proofs.PointLaws.{cells_length}
use Rattle.stored.specs.declared.LayerClaims.{LayerClaims}
use Rattle.stored.specs.Shapes.{claims_in}
use Rattle.stored.specs.Parse.{claims_of, cubics_from}
use Rattle.stored.specs.ParseLaws.{cubics_count}
use Rattle.multilinear.specs.RoundSum.{Claims}
use Rattle.gkr.specs.Run.{Frac, Cubic}
use Rattle.gkr.specs.Transcripts.{Words, Source}
use Rattle.gkr.specs.Sumcheck as Sumcheck
use Rattle.gkr.specs.Gkr as Gkr
use Rattle.gkr.specs.Gkr.{subround_count}
use Rattle.transcript.specs.Log.{Drawing, State, log_of}
use Rattle.transcript.proofs.Logs.{then}
use Rattle.refusal.specs.declared.Refusal.{Refusal}
use Rattle.refusal.specs.declared.Refusal.TheVariants.{IncorrectSubroundCount}
use Rattle.verifier_round.specs.declared.Claims.{Claims as Claimed}
use Rattle.verifier_round.specs.declared.Sums.{Sums}
use Rattle.verifier_round.specs.declared.Opened.{Opened}
use Rattle.verifier_round.specs.Values.{dec_cubic, dec_claims, columns}
use Rattle.verifier_round.specs.Points.{ahead}
use Rattle.verifier_round.specs.Rounds.{LayerOpened, Came, LayerChecked}
use Rattle.verifier_round.specs.AdvanceLaws.{accepted_or_refused}
use Rattle.verifier_round.proofs.Points.{ahead_all}
use Rattle.verifier_round.proofs.Ends.{stops_there}
use Rattle.verifier_rounds.specs.Runs.{cubics_at, entry_at, summing, Summed, RoundDone}
use Rattle.verifier_rounds.proofs.StopLaws.{advanced_before}

pub map_length : {A B : Type 0} (f : A → B) (l : List A) → length (map f l) ≡ length l
map_length f [] = refl
map_length f (x ∷ l) = ap suc (map_length f l)

pub entry_count_is : (bs : List ℕ) (polys : ℕ) → length (entry_at bs polys) ≡ get_or bs polys 0
entry_count_is bs polys = map_length dec_cubic (cubics_from (get_or bs polys 0) (drop (polys + 1) bs)) ∙ cubics_count (get_or bs polys 0) (drop (polys + 1) bs)

came : (bs pt pt' : List ℕ) {t t₁ t₂ : State} (ch : Source E.Ext) (polys round : ℕ) (s : Claimed) (o : Opened) (last : Sums) → get_or bs polys 0 ≡ round → LayerOpened pt t t₁ ch s o
    → Summed bs pt pt' t₁ t₂ ch (polys + 1) round o.first last → Came pt' t₂ ch round o.lambda last (entry_at bs polys) (columns s) (cells pt 0 round) (log_of t)
came bs pt pt' {t₁ = t₁} ch polys round s o last e a b =
    let z : cells pt 0 round ≡ ahead (dec o.first.xi) pt 0 round = sym (ahead_all pt round) ∙ ap (λ x. ahead x pt 0 round) (sym a.xi.value) in
    let here : _ ≡ summing bs pt t₁ ch (polys + 1) 0 round o.first =
    (λ i. Sumcheck.verify_gkr_sumcheck Extension (Drawing ch) (cubics_at bs (polys + 1) (e i)) (z i) (sym a.claim.value i) (sym a.eq.value i) (sym a.steps.log i)) in
    record {
      counted = entry_count_is bs polys ∙ e;
      long = cells_length pt 0 round;
      drew = sym a.lambda.value;
      sums = here ∙ (λ i. record { claim = sym b.claim.value i; point = sym b.point i; eq = sym b.eq.value i; log = sym b.steps.log i });
    }

-- ---- the count is right
pub round_closed : {bs pt pt₁ pt₂ : List ℕ} {t t₁ t₂ t₃ : State} {ch ch₂ : Source E.Ext} (claims polys round : ℕ) (s : Claimed) (o : Opened) (last : Sums) (c : LayerClaims) (r : Result Claimed Refusal)
    → get_or bs polys 0 ≡ round → LayerOpened pt t t₁ ch s o → Summed bs pt pt₁ t₁ t₂ ch (polys + 1) round o.first last → claims_in c ≡ claims_of (drop claims bs)
    → ch₂ ≡ ch → LayerChecked pt₁ pt₂ t₂ t₃ ch₂ (dec_claims (claims_in c)) round o.lambda last r → RoundDone bs pt pt₂ t t₃ ch claims polys round s r
round_closed {bs} {pt} {pt₁} {pt₂} {t} {t₁} {t₂} {t₃} {ch} claims polys round s o last c r e a b q w h =
    let closed : LayerChecked pt₁ pt₂ t₂ t₃ ch (dec_claims (claims_of (drop claims bs))) round o.lambda last r =
    subst (λ d. LayerChecked pt₁ pt₂ t₂ t₃ ch (dec_claims d) round o.lambda last r) q (subst (λ d. LayerChecked pt₁ pt₂ t₂ t₃ d (dec_claims (claims_in c)) round o.lambda last r) w h) in
    record {
      run =
          advanced_before (then a.steps b.steps) t₃ pt₂ ch (round + 1) 20 1 (16 * round + 24) (round + 2) _ r (omega arith) (omega arith)
          (closed (entry_at bs polys) (columns s) (cells pt 0 round) (log_of t) (came bs pt pt₁ ch polys round s o last e a b));
      counted = λ v _. e;
    }

-- ---- the count is wrong
count_fails : (ch : Source E.Ext) (ms : List (Cubic E.Ext)) (c : Claims E.Ext) (v : Frac E.Ext) (z : List E.Ext) (t : Words) (mss : List (List (Cubic E.Ext))) (cs : List (Claims E.Ext)) (k r : ℕ)
    → length ms ≡ k → length z ≡ r → (k ≡ r → ⊥) → Gkr.rounds Extension (Drawing ch) (ms ∷ mss) (c ∷ cs) v z t ≡ subround_count r r k ((Drawing ch).drawn t)
unfolding Gkr.rounds
count_fails ch ms c v z t mss cs k r a b h =
    let f : eqb (length ms) (length z) ≡ false = ne_eqb (length ms) (length z) (λ q. h (sym a ∙ q ∙ b)) in
    rw f (λ i. subround_count (b i) (b i) (a i) ((Drawing ch).drawn t))

pub round_stopped : (bs pt : List ℕ) {t t₁ : State} (ch : Source E.Ext) (claims polys round count : ℕ) (s : Claimed) (o : Opened) → count ≡ get_or bs polys 0 → (count ≡ round → ⊥)
    → t.put + (16 * round + 24) ≤ length t.buffer → LayerOpened pt t t₁ ch s o → RoundDone bs pt pt t t₁ ch claims polys round s (Err (IncorrectSubroundCount round round count))
round_stopped bs pt {t} ch claims polys round count s o e h room a =
    record {
      run = λ mss cs.
          stops_there ch _ _ _ a.steps (omega (arith, a.steps.put))
          (count_fails ch (entry_at bs polys) (dec_claims (claims_of (drop claims bs))) (columns s) (cells pt 0 round) (log_of t) mss cs count round (entry_count_is bs polys ∙ sym e) (cells_length pt 0 round) h) refl refl refl;
      counted = λ v q. absurd (accepted_or_refused (sym q));
    }
