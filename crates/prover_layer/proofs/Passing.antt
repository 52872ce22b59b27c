-- The passes of a sub-round over the claims: sums, differences in place, and the fold that goes on from these.
-- Assumes nothing.
use mathlib.Core.Path.{◌≡◌, refl, sym, ◌∙◌, ap, ap₂}
use mathlib.Core.List.{List, [], ◌∷◌}
use Prim.Native.Nat.{ℕ, ◌+◌, ◌*◌, ◌<◌, ◌≤◌}
use native.Mathlib.Nat.{not-suc-le-zero}
use native.Mathlib.Numerals.{add-one}
use native.Mathlib.Omega.{arith}
use borrow.Author.Count.{below_more}
use Rattle.ring.proofs.Quote.{ring, quote}
use Rattle.field.specs.Ext as E
use Rattle.field.specs.ExtRing.{ExtRing}
use Rattle.field.specs.Element.{dec, Is}
use Rattle.field.specs.declared.Ext.{Ext}
use Rattle.field.specs.Cells.{cell, Clean}
use Rattle.multilinear.specs.Table as Table
use Rattle.multilinear.proofs.TableLaws as TableLaws
use Rattle.multilinear.specs.RoundSum as RoundSum
use Rattle.multilinear.specs.RoundSum.{Claims}
use Rattle.step.specs.declared.Frac.{Frac}
use Rattle.step.specs.Values.{IsFrac, dec_frac, zip, zip_frac, minus, line, numerator}
use Rattle.prover_tree.specs.Nodes.{StoredNode}
use Rattle.prover_layer.specs.declared.Pair.{Pair}
use Rattle.prover_layer.specs.Columns.{claims}
use Rattle.prover_layer.specs.Passes.{CanonPair, IsPair, dec_pair, side, side_sum, lead, differ, rise, StoredPair, Risen, Folded}
use Rattle.prover_layer.proofs.Entries.{claims_kept}

-- PAIRS

pub pair_canon : {t : Pair} {c : Claims E.Ext} → IsPair t c → CanonPair t
pair_canon h = record { l = record { p = h.l.p.canon; q = h.l.q.canon }; r = record { p = h.r.p.canon; q = h.r.q.canon } }

pub pair_claims : {t : Pair} {c : Claims E.Ext} → IsPair t c → dec_pair t ≡ c
pair_claims h = λ i. record { p0 = h.l.p.value i; q0 = h.l.q.value i; p1 = h.r.p.value i; q1 = h.r.q.value i }

pub pair_stored : (ws ws₁ ws₂ : List ℕ) (b i : ℕ) (t : Pair) → StoredNode ws ws₁ (b + 2 * i) (dec_frac t.l) → StoredNode ws₁ ws₂ (b + (2 * i + 1)) (dec_frac t.r)
    → StoredPair ws ws₂ b i (dec_pair t)
pair_stored ws ws₁ ws₂ b i t p q =
    record {
      clean = q.clean;
      nodes = λ k. record {
        p0 = (q.rest (2 * (b + 2 * i)) (λ r. omega arith) (λ r. omega arith) ∙ ap (λ f. f.p) p.here) k;
        q0 = (q.rest (2 * (b + 2 * i) + 1) (λ r. omega arith) (λ r. omega arith) ∙ ap (λ f. f.q) p.here) k;
        p1 = (q.here k).p;
        q1 = (q.here k).q;
      };
      rest = λ j v. q.rest j (λ r. v (omega arith) (omega arith)) (λ r. v (omega arith) (omega arith)) ∙ p.rest j (λ r. v (omega arith) (omega arith)) (λ r. v (omega arith) (omega arith));
    }

-- THE SUMS

turned : (n e a : E.Ext) → E.add (E.mul n e) a ≡ E.add a (E.mul e n)
turned n e a = ring ExtRing (n ∷ e ∷ a ∷ []) (search quote depth 40 fits 9999) tt

pub side_added : (ws : List ℕ) (at b off y : ℕ) (t : Pair) (n e acc r : Ext) → IsPair t (claims ws b (2 * y + off))
    → Is n (E.add (E.mul (dec t.l.p) (dec t.r.q)) (E.mul (dec t.l.q) (dec t.r.p))) → Is e (cell ws (at + y))
    → Is r (E.add (E.mul (dec n) (dec e)) (dec acc)) → Is r (E.add (dec acc) (side ws at b off y))
side_added ws at b off y t n e acc r h hn he hr =
    record { canon = hr.canon; value = hr.value ∙ ap₂ (λ u v. E.add (E.mul u v) (dec acc)) (hn.value ∙ ap numerator (pair_claims h)) he.value ∙ turned _ _ _ }

pub sum_none : (f : ℕ → E.Ext) (t : Ext) → Is t E.nil → Is t (Table.sum ExtRing 0 f)
unfolding Table.sum
sum_none f t h = h

pub sum_next : (n : ℕ) (f : ℕ → E.Ext) (t u : Ext) → Is t (Table.sum ExtRing n f) → Is u (E.add (dec t) (f n)) → Is u (Table.sum ExtRing (n + 1) f)
unfolding Table.sum
sum_next n f t u p q = record { canon = q.canon; value = q.value ∙ ap (λ a. E.add a (f n)) p.value ∙ ap (λ k. Table.sum ExtRing k f) (sym (add-one n)) }

-- THE DIFFERENCES

pub pair_risen : (ws ws' : List ℕ) (b y : ℕ) (s t : Pair) (l r : Frac) → IsPair s (claims ws b (2 * y)) → IsPair t (claims ws b (2 * y + 1))
    → IsFrac l (zip_frac minus (dec_frac t.l) (dec_frac s.l)) → IsFrac r (zip_frac minus (dec_frac t.r) (dec_frac s.r))
    → StoredPair ws ws' b (2 * y + 1) (dec_pair (record { l = l; r = r })) → StoredPair ws ws' b (2 * y + 1) (differ (claims ws b) y)
pair_risen ws ws' b y s t l r hs ht hl hr k =
    record {
      clean = k.clean;
      nodes = k.nodes ∙ (λ i. record { p0 = hl.p.value i; q0 = hl.q.value i; p1 = hr.p.value i; q1 = hr.q.value i }) ∙ ap₂ (zip minus) (pair_claims ht) (pair_claims hs);
      rest = k.rest;
    }

pub rises_none : (ws : List ℕ) (b : ℕ) → Clean ws → Risen ws ws b 0
rises_none ws b h = record { clean = h; even = λ y l. absurd (not-suc-le-zero l); odd = λ y l. absurd (not-suc-le-zero l); below = λ j l. refl; above = λ j l. refl }

pub rises_next : (ws₀ ws ws' : List ℕ) (b n : ℕ) → Risen ws₀ ws b n → StoredPair ws ws' b (2 * n + 1) (differ (claims ws b) n) → Risen ws₀ ws' b (n + 1)
rises_next ws₀ ws ws' b n f s =
    let k0 : claims ws b (2 * n) ≡ claims ws₀ b (2 * n) = claims_kept ws₀ ws b (2 * n) (λ j p q. f.above j (omega arith)) in
    let k1 : claims ws b (2 * n + 1) ≡ claims ws₀ b (2 * n + 1) = claims_kept ws₀ ws b (2 * n + 1) (λ j p q. f.above j (omega arith)) in
    record {
      clean = s.clean;
      even = below_more (λ y. claims ws' b (2 * y) ≡ claims ws₀ b (2 * y)) n
          (λ y l. claims_kept ws ws' b (2 * y) (λ j p q. s.rest j (λ p' q'. omega arith)) ∙ f.even y l)
          (claims_kept ws ws' b (2 * n) (λ j p q. s.rest j (λ p' q'. omega arith)) ∙ k0);
      odd = below_more (λ y. claims ws' b (2 * y + 1) ≡ differ (claims ws₀ b) y) n
          (λ y l. claims_kept ws ws' b (2 * y + 1) (λ j p q. s.rest j (λ p' q'. omega arith)) ∙ f.odd y l)
          (s.nodes ∙ ap₂ (zip minus) k1 k0);
      below = λ j l. s.rest j (λ p q. omega arith) ∙ f.below j l;
      above = λ j l. s.rest j (λ p q. omega arith) ∙ f.above j (omega arith);
    }

-- the sum over the differences is the leading coefficient
pub lead_is : (ws ws' : List ℕ) (at b n : ℕ) → 2 * b + 8 * n ≤ at → Risen ws ws' b n → side_sum ws' at b 1 n ≡ lead ws at b n
lead_is ws ws' at b n u h = TableLaws.sum_below ExtRing n _ _ (λ y l. ap₂ (λ e c. E.mul e (numerator c)) (h.above (at + y) (omega arith)) (h.odd y l))

-- THE FOLD

pub pair_folded : (ws ws' : List ℕ) (b y : ℕ) (rho : E.Ext) (s d : Pair) (a e f g : Ext) → IsPair s (claims ws b (2 * y)) → IsPair d (claims ws b (2 * y + 1))
    → Is a (E.add (E.mul (dec d.l.p) rho) (dec s.l.p)) → Is e (E.add (E.mul (dec d.l.q) rho) (dec s.l.q))
    → Is f (E.add (E.mul (dec d.r.p) rho) (dec s.r.p)) → Is g (E.add (E.mul (dec d.r.q) rho) (dec s.r.q))
    → StoredPair ws ws' b y (dec_pair (record { l = record { p = a; q = e }; r = record { p = f; q = g } })) → StoredPair ws ws' b y (rise rho (claims ws b) y)
pair_folded ws ws' b y rho s d a e f g hs hd ha he hf hg k =
    record {
      clean = k.clean;
      nodes = k.nodes ∙ (λ i. record { p0 = ha.value i; q0 = he.value i; p1 = hf.value i; q1 = hg.value i }) ∙ ap₂ (zip (λ a d. E.add (E.mul d rho) a)) (pair_claims hs) (pair_claims hd);
      rest = k.rest;
    }

pub folds_none : (ws : List ℕ) (b : ℕ) (r : E.Ext) → Clean ws → Folded ws ws b 0 r
folds_none ws b r h = record { clean = h; nodes = λ y l. absurd (not-suc-le-zero l); below = λ j l. refl; above = λ j l. refl }

-- an entry only overwrites what is read already
pub folds_next : (ws₀ ws ws' : List ℕ) (b n : ℕ) (r : E.Ext) → Folded ws₀ ws b n r → StoredPair ws ws' b n (rise r (claims ws b) n) → Folded ws₀ ws' b (n + 1) r
folds_next ws₀ ws ws' b n r f s =
    let k0 : claims ws b (2 * n) ≡ claims ws₀ b (2 * n) = claims_kept ws₀ ws b (2 * n) (λ j p q. f.above j (omega arith)) in
    let k1 : claims ws b (2 * n + 1) ≡ claims ws₀ b (2 * n + 1) = claims_kept ws₀ ws b (2 * n + 1) (λ j p q. f.above j (omega arith)) in
    record {
      clean = s.clean;
      nodes = below_more (λ y. claims ws' b y ≡ rise r (claims ws₀ b) y) n
          (λ y l. claims_kept ws ws' b y (λ j p q. s.rest j (λ p' q'. omega arith)) ∙ f.nodes y l)
          (s.nodes ∙ ap₂ (zip (λ a d. E.add (E.mul d r) a)) k0 k1);
      below = λ j l. s.rest j (λ p q. omega arith) ∙ f.below j l;
      above = λ j l. s.rest j (λ p q. omega arith) ∙ f.above j (omega arith);
    }

line_risen : (r a b : E.Ext) → E.add (E.mul (minus b a) r) a ≡ line r a b
line_risen r a b = ring ExtRing (r ∷ a ∷ b ∷ []) (search quote depth 40 fits 9999) tt

-- over differences the fold is that of the columns before
pub fold_is : (ws ws₁ ws₂ : List ℕ) (b n : ℕ) (r : E.Ext) → Risen ws ws₁ b n → Folded ws₁ ws₂ b n r → (y : ℕ) → y < n → claims ws₂ b y ≡ RoundSum.folded ExtRing (claims ws b) r y
unfolding Table.fold
fold_is ws ws₁ ws₂ b n r h f y l =
    f.nodes y l ∙ ap₂ (zip (λ a d. E.add (E.mul d r) a)) (h.even y l) (h.odd y l)
    ∙ (λ i. zip (λ a b. line_risen r a b i) (claims ws b (2 * y)) (claims ws b (2 * y + 1)))
