-- The proof of the model's run stands in its log.
-- Assumes nothing.
use mathlib.Core.Path.{◌≡◌, refl, sym, ◌∙◌, ap, ap₂}
use mathlib.Core.List.{List, [], ◌∷◌, ◌++◌, append_assoc, map}
use Prim.Native.Nat.{ℕ, zero, suc, ◌+◌, ◌*◌, ◌<◌}
use native.Mathlib.Omega.{arith}
use lib.ListN.{length, get_or, length-append, get_or-append}
use lib.Seq.{get_or-append-add}
use Rattle.field.specs.Base.{of}
use Rattle.field.specs.BaseRing.{of_val}
use Rattle.field.specs.Ext as E
use Rattle.field.specs.ExtRing.{ExtRing}
use Rattle.field.specs.Extension.{Extension}
use Rattle.field.specs.Element.{words}
use Rattle.field.specs.Cells.{cell}
use Rattle.multilinear.specs.Table as Table
use Rattle.multilinear.specs.RoundSum as RoundSum
use Rattle.multilinear.specs.RoundSum.{Claims}
use Rattle.gkr.specs.Run.{Frac}
use Rattle.gkr.specs.Transcripts.{Words, mark, Source}
use Rattle.gkr.specs.Tree as Tree
use Rattle.gkr.specs.Sumcheck as Sumcheck
use Rattle.gkr.specs.Gkr as Gkr
use Rattle.transcript.specs.Log.{Drawing}
use Rattle.stored_writer.specs.Messages.{read_claims, read_polys, layer_claims, layer_polys, read_proof}

-- L goes on from the log t
pub record Extends (t : Words) (L : List ℕ) : Type 0 where
  pub rest : List ℕ
  pub whole : L ≡ t.log ++ rest

before : (u : Words) (w : List ℕ) (n : ℕ) (L : List ℕ) → Extends (record { log = u.log ++ w; used = n }) L → Extends u L
before u w n L x = record { rest = w ++ x.rest; whole = x.whole ∙ append_assoc u.log w x.rest }

word_at : (l w r : List ℕ) (i j : ℕ) → length l ≡ 4 * i → j < length w → get_or ((l ++ w) ++ r) (4 * i + j) 0 ≡ get_or w j 0
word_at l w r i j e h =
    let k : 4 * i + j ≡ length l + j = omega (arith, e) in
    ap (λ k. get_or ((l ++ w) ++ r) k 0) k
    ∙ get_or-append (l ++ w) r 0 (length l + j) (omega (arith, length-append l w))
    ∙ get_or-append-add l w j 0

module _ (ch : Source E.Ext) where
  abbrev obs : E.Ext → Words → Words
  obs x t = (Drawing ch).observe x t

  un : (x : E.Ext) (t : Words) (L : List ℕ) → Extends (obs x t) L → Extends t L
  un x t L X = before t (words x) t.used L X

  undrawn : (t : Words) (L : List ℕ) → Extends ((Drawing ch).drawn t) L → Extends t L
  undrawn t L X = before t (map mark (words (ch t))) (suc t.used) L X

  -- an element that was observed at cell i
  there : (x : E.Ext) (t : Words) (L : List ℕ) (i : ℕ) → length t.log ≡ 4 * i → Extends (obs x t) L → cell L i ≡ x
  unfolding cell E.ext
  there x t L i e X =
      let w : (j : ℕ) → j < 4 → get_or L (4 * i + j) 0 ≡ get_or (words x) j 0 = (λ j h. ap (λ l. get_or l (4 * i + j) 0) X.whole ∙ word_at t.log (words x) X.rest i j e h) in
      let z : 4 * i ≡ 4 * i + 0 = omega arith in
      λ k. record {
        c0 = (ap (λ m. of (get_or L m 0)) z ∙ ap of (w 0 (omega arith)) ∙ of_val x.c0) k;
        c1 = (ap of (w 1 (omega arith)) ∙ of_val x.c1) k;
        c2 = (ap of (w 2 (omega arith)) ∙ of_val x.c2) k;
        c3 = (ap of (w 3 (omega arith)) ∙ of_val x.c3) k;
      }

  on_observed : (x : E.Ext) (t : Words) (i : ℕ) → length t.log ≡ 4 * i → length (obs x t).log ≡ 4 * (i + 1)
  on_observed x t i e = length-append t.log (words x) ∙ omega (arith, e)

  on_drawn : (t : Words) (i : ℕ) → length t.log ≡ 4 * i → length ((Drawing ch).drawn t).log ≡ 4 * (i + 1)
  on_drawn t i e = length-append t.log (map mark (words (ch t))) ∙ omega (arith, e)

  -- THE SUB-ROUNDS
  send_before : (k : ℕ) (l : E.Ext) (e : ℕ → E.Ext) (c : ℕ → Claims E.Ext) (t : Words) (L : List ℕ) → Extends (Sumcheck.send Extension (Drawing ch) k l e c t).log L → Extends t L
  unfolding Sumcheck.send
  send_before zero l e c t L X = X
  send_before (suc k) l e c t L X =
      let m = Sumcheck.message Extension (Drawing ch) k l e c in
      let a = obs m.at1 t in
      let b = obs m.at2 a in
      let t₁ = obs m.at3 b in
      let r = ch t₁ in
      un m.at1 t L (un m.at2 a L (un m.at3 b L (undrawn t₁ L (send_before k l (Table.fold ExtRing e r) (RoundSum.folded ExtRing c r) ((Drawing ch).drawn t₁) L X))))

  send_length : (k : ℕ) (l : E.Ext) (e : ℕ → E.Ext) (c : ℕ → Claims E.Ext) (t : Words) (i : ℕ) → length t.log ≡ 4 * i
      → length (Sumcheck.send Extension (Drawing ch) k l e c t).log.log ≡ 4 * (i + 4 * k)
  unfolding Sumcheck.send
  send_length zero l e c t i h = h ∙ omega arith
  send_length (suc k) l e c t i h =
      let m = Sumcheck.message Extension (Drawing ch) k l e c in
      let a = obs m.at1 t in
      let b = obs m.at2 a in
      let t₁ = obs m.at3 b in
      let r = ch t₁ in
      let h₁ = on_observed m.at1 t i h in
      let h₂ = on_observed m.at2 a (i + 1) h₁ in
      let h₃ = on_observed m.at3 b (i + 1 + 1) h₂ in
      send_length k l (Table.fold ExtRing e r) (RoundSum.folded ExtRing c r) ((Drawing ch).drawn t₁) (i + 1 + 1 + 1 + 1) (on_drawn t₁ (i + 1 + 1 + 1) h₃) ∙ omega arith

  pub polys_there : (k : ℕ) (l : E.Ext) (e : ℕ → E.Ext) (c : ℕ → Claims E.Ext) (t : Words) (L : List ℕ) (i : ℕ) → length t.log ≡ 4 * i
      → Extends (Sumcheck.send Extension (Drawing ch) k l e c t).log L → read_polys L i k ≡ (Sumcheck.send Extension (Drawing ch) k l e c t).polys
  unfolding Sumcheck.send
  polys_there zero l e c t L i h X = refl
  polys_there (suc k) l e c t L i h X =
      let m = Sumcheck.message Extension (Drawing ch) k l e c in
      let a = obs m.at1 t in
      let b = obs m.at2 a in
      let t₁ = obs m.at3 b in
      let r = ch t₁ in
      let h₁ = on_observed m.at1 t i h in
      let h₂ : length b.log ≡ 4 * (i + 2) = on_observed m.at2 a (i + 1) h₁ ∙ omega arith in
      let h₃ = on_observed m.at3 b (i + 2) h₂ in
      let h₄ : length ((Drawing ch).drawn t₁).log ≡ 4 * (i + 4) = on_drawn t₁ (i + 2 + 1) h₃ ∙ omega arith in
      let X₃ = undrawn t₁ L (send_before k l (Table.fold ExtRing e r) (RoundSum.folded ExtRing c r) ((Drawing ch).drawn t₁) L X) in
      let X₂ = un m.at3 b L X₃ in
      let X₁ = un m.at2 a L X₂ in
      ap₂ (λ m ms. m ∷ ms)
      (λ j. record { at1 = there m.at1 t L i h X₁ j; at2 = there m.at2 a L (i + 1) h₁ X₂ j; at3 = there m.at3 b L (i + 2) h₂ X₃ j })
      (polys_there k l (Table.fold ExtRing e r) (RoundSum.folded ExtRing c r) ((Drawing ch).drawn t₁) L (i + 4) h₄ X)

  -- THE CLAIMS
  claims_before : (c : Claims E.Ext) (t : Words) (L : List ℕ) → Extends (Gkr.observe_layer_claims Extension (Drawing ch) c t) L → Extends t L
  claims_before c t L X =
      let a = obs c.p0 t in
      let b = obs c.q0 a in
      let d = obs c.p1 b in
      un c.p0 t L (un c.q0 a L (un c.p1 b L (un c.q1 d L X)))

  claims_length : (c : Claims E.Ext) (t : Words) (i : ℕ) → length t.log ≡ 4 * i → length (Gkr.observe_layer_claims Extension (Drawing ch) c t).log ≡ 4 * (i + 4)
  claims_length c t i h =
      let a = obs c.p0 t in
      let b = obs c.q0 a in
      let d = obs c.p1 b in
      on_observed c.q1 d (i + 1 + 1 + 1) (on_observed c.p1 b (i + 1 + 1) (on_observed c.q0 a (i + 1) (on_observed c.p0 t i h))) ∙ omega arith

  claims_there : (c : Claims E.Ext) (t : Words) (L : List ℕ) (i : ℕ) → length t.log ≡ 4 * i → Extends (Gkr.observe_layer_claims Extension (Drawing ch) c t) L → read_claims L i ≡ c
  claims_there c t L i h X =
      let a = obs c.p0 t in
      let b = obs c.q0 a in
      let d = obs c.p1 b in
      let h₁ = on_observed c.p0 t i h in
      let h₂ : length b.log ≡ 4 * (i + 2) = on_observed c.q0 a (i + 1) h₁ ∙ omega arith in
      let h₃ : length d.log ≡ 4 * (i + 3) = on_observed c.p1 b (i + 2) h₂ ∙ omega arith in
      let X₃ = un c.q1 d L X in
      let X₂ = un c.p1 b L X₃ in
      let X₁ = un c.q0 a L X₂ in
      λ j. record { p0 = there c.p0 t L i h X₁ j; q0 = there c.q0 a L (i + 1) h₁ X₂ j; p1 = there c.p1 b L (i + 2) h₂ X₃ j; q1 = there c.q1 d L (i + 3) h₃ X j }

  sent_length : (k : ℕ) (l : E.Ext) (e : ℕ → E.Ext) (c : ℕ → Claims E.Ext) (t : Words) → length (Sumcheck.send Extension (Drawing ch) k l e c t).point ≡ k
  unfolding Sumcheck.send
  sent_length zero l e c t = refl
  sent_length (suc k) l e c t = ap suc (sent_length k l _ _ _)

  -- THE LAYERS
  gkr_before : (f : ℕ → Frac E.Ext) (h : ℕ) (z : List E.Ext) (t : Words) (L : List ℕ) → Extends (Gkr.send Extension (Drawing ch) f h z t).log L → Extends t L
  unfolding Gkr.send
  gkr_before f zero z t L X = X
  gkr_before f (suc h) z t L X =
      let l = ch t in
      let w = Table.weight ExtRing z in
      let c = Tree.children ExtRing (Tree.tree ExtRing f h) in
      let P = Sumcheck.send Extension (Drawing ch) (length z) l w c ((Drawing ch).drawn t) in
      let t₁ = Gkr.observe_layer_claims Extension (Drawing ch) P.last P.log in
      undrawn t L (send_before (length z) l w c ((Drawing ch).drawn t) L (claims_before P.last P.log L (undrawn t₁ L (gkr_before f h (ch t₁ ∷ P.point) ((Drawing ch).drawn t₁) L X))))

  pub layers_there : (f : ℕ → Frac E.Ext) (h r : ℕ) (z : List E.Ext) (t : Words) (L : List ℕ) (i : ℕ) → length z ≡ r → length t.log ≡ 4 * i
      → Extends (Gkr.send Extension (Drawing ch) f h z t).log L
      → (layer_claims L i r h ≡ (Gkr.send Extension (Drawing ch) f h z t).claims) × (layer_polys L i r h ≡ (Gkr.send Extension (Drawing ch) f h z t).polys)
  unfolding Gkr.send
  layers_there f zero r z t L i e u X = (refl, refl)
  layers_there f (suc h) r z t L i e u X =
      let l = ch t in
      let w = Table.weight ExtRing z in
      let c = Tree.children ExtRing (Tree.tree ExtRing f h) in
      let P = Sumcheck.send Extension (Drawing ch) (length z) l w c ((Drawing ch).drawn t) in
      let t₁ = Gkr.observe_layer_claims Extension (Drawing ch) P.last P.log in
      let X₁ = undrawn t₁ L (gkr_before f h (ch t₁ ∷ P.point) ((Drawing ch).drawn t₁) L X) in
      let X₂ = claims_before P.last P.log L X₁ in
      let u₁ = on_drawn t i u in
      let u₂ : length P.log.log ≡ 4 * (i + 1 + 4 * r) = send_length (length z) l w c ((Drawing ch).drawn t) (i + 1) u₁ ∙ ap (λ k. 4 * (i + 1 + 4 * k)) e in
      let u₃ : length ((Drawing ch).drawn t₁).log ≡ 4 * (i + 6 + 4 * r) = on_drawn t₁ (i + 1 + 4 * r + 4) (claims_length P.last P.log (i + 1 + 4 * r) u₂) ∙ omega arith in
      let n : length (ch t₁ ∷ P.point) ≡ suc r = ap suc (sent_length (length z) l w c ((Drawing ch).drawn t) ∙ e) in
      let ih = layers_there f h (suc r) (ch t₁ ∷ P.point) ((Drawing ch).drawn t₁) L (i + 6 + 4 * r) n u₃ X in (
        ap₂ (λ a b. a ∷ b) (claims_there P.last P.log L (i + 1 + 4 * r) u₂ X₁) ih.0,
        ap₂ (λ a b. a ∷ b) (ap (read_polys L (i + 1)) (sym e) ∙ polys_there (length z) l w c ((Drawing ch).drawn t) L (i + 1) u₁ X₂) ih.1,
      )

  -- THE PROOF STANDS IN THE LOG
  pub proof_there : (m : ℕ) (f : ℕ → Frac E.Ext) (t : Words) (L : List ℕ) (i : ℕ) → length t.log ≡ 4 * i
      → Extends (Gkr.run Extension (Drawing ch) m f t).log L → read_proof L i m ≡ (Gkr.run Extension (Drawing ch) m f t).proof
  unfolding Gkr.run
  proof_there m f t L i u X =
      let root = Tree.tree ExtRing f (suc m) 0 in
      let c = Tree.children ExtRing (Tree.tree ExtRing f m) 0 in
      let a = obs root.q t in
      let t₁ = Gkr.observe_layer_claims Extension (Drawing ch) c a in
      let z = ch t₁ ∷ [] in
      let X₁ = undrawn t₁ L (gkr_before f m z ((Drawing ch).drawn t₁) L X) in
      let u₁ = on_observed root.q t i u in
      let u₂ : length ((Drawing ch).drawn t₁).log ≡ 4 * (i + 6) = on_drawn t₁ (i + 1 + 4) (claims_length c a (i + 1) u₁) ∙ omega arith in
      let rest = layers_there f m 1 z ((Drawing ch).drawn t₁) L (i + 6) refl u₂ X in
      λ j. record {
        q0 = there root.q t L i u (claims_before c a L X₁) j;
        claims = claims_there c a L (i + 1) u₁ X₁ j ∷ rest.0 j;
        polys = rest.1 j;
      }
