-- Over weighed claims, with a lambda of nothing, the sub-rounds send what they send over the claims with lambda.
-- Assumes nothing.
use mathlib.Core.Path.{◌≡◌, refl, sym, ◌∙◌, ap, ap₂, subst}
use mathlib.Core.List.{List, ◌∷◌}
use Prim.Native.Nat.{ℕ, zero, suc, ◌+◌, ◌*◌, ◌/◌, ◌^◌, ◌<◌, ◌≤◌}
use native.Mathlib.Omega.{arith}
use lib.Pow.{pow_pos}
use Rattle.ring.specs.Ring.{num}
use Rattle.field.specs.Ext as E
use Rattle.field.specs.ExtRing.{ExtRing}
use Rattle.field.specs.Extension.{Extension}
use Rattle.field.specs.Cells.{cells}
use Rattle.multilinear.specs.Table as Table
use Rattle.multilinear.proofs.TableLaws as TableLaws
use Rattle.multilinear.specs.RoundSum as RoundSum
use Rattle.multilinear.specs.RoundSum.{Claims}
use Rattle.gkr.specs.Run.{Transcript, Cubic}
use Rattle.gkr.specs.Sumcheck as Sumcheck
use Rattle.gkr.specs.Transcripts.{Source}
use Rattle.transcript.specs.Log.{Drawing, State, log_of}
use Rattle.step.specs.Values.{minus, weigh}
use Rattle.step.proofs.Algebra.{line_weighed, weighed_back}
use Rattle.step.proofs.Pairs.{weighed_cross, numerator_cross}
use Rattle.prover_layer.specs.declared.Turn.{Turn}
use Rattle.prover_layer.specs.Columns.{claims, Weighed}
use Rattle.prover_layer.proofs.Agree.{send_same}
use Rattle.prover_rounds.specs.SubRounds.{sends, faced, Facing, SubRounds}

abbrev weighs : E.Ext → (ℕ → Claims E.Ext) → ℕ → Claims E.Ext
weighs l c y = weigh l (c y)

fold_weighed : (l x : E.Ext) (c : ℕ → Claims E.Ext) (y : ℕ) → RoundSum.folded ExtRing (weighs l c) x y ≡ weigh l (RoundSum.folded ExtRing c x y)
unfolding Table.fold
fold_weighed l x c y = λ i. record {
  p0 = (RoundSum.folded ExtRing c x y).p0;
  q0 = (RoundSum.folded ExtRing c x y).q0;
  p1 = line_weighed x l (c (2 * y)).p1 (c (2 * y)).q1 (c (2 * y + 1)).p1 (c (2 * y + 1)).q1 i;
  q1 = (RoundSum.folded ExtRing c x y).q1;
}

cross_same : (l x : E.Ext) (c : ℕ → Claims E.Ext) (y : ℕ) → RoundSum.cross ExtRing E.nil (RoundSum.folded ExtRing (weighs l c) x y) ≡ RoundSum.cross ExtRing l (RoundSum.folded ExtRing c x y)
cross_same l x c y =
    ap (RoundSum.cross ExtRing E.nil) (fold_weighed l x c y)
    ∙ sym (numerator_cross (weigh l (RoundSum.folded ExtRing c x y)))
    ∙ weighed_cross l (RoundSum.folded ExtRing c x y)

s_weighed : (k : ℕ) (l : E.Ext) (e : ℕ → E.Ext) (c : ℕ → Claims E.Ext) (x : E.Ext) → RoundSum.s ExtRing k E.nil e (weighs l c) x ≡ RoundSum.s ExtRing k l e c x
unfolding RoundSum.s RoundSum.total
s_weighed k l e c x = λ i. Table.sum ExtRing (2 ^ k) (λ y. E.mul (Table.fold ExtRing e x y) (cross_same l x c y i))

module _ (S : Transcript E.Ext) where
  -- the same point and log, and the last claims weighed
  pub record Alike (l : E.Ext) (a b : Sumcheck.Sent Extension S) : Type 0 where
    pub point : b.point ≡ a.point
    pub log : b.log ≡ a.log
    pub last : b.last ≡ weigh l a.last

  abbrev behind : Cubic E.Ext → E.Ext → Sumcheck.Sent Extension S → Sumcheck.Sent Extension S
  behind m r rest = record { polys = m ∷ rest.polys; point = r ∷ rest.point; last = rest.last; log = rest.log }

  -- a turn from its message on
  abbrev turn : ℕ → E.Ext → (ℕ → E.Ext) → (ℕ → Claims E.Ext) → S.Log → Cubic E.Ext → Sumcheck.Sent Extension S
  turn k l e c t m =
      let t₁ = Sumcheck.observe_cubic Extension S m t in
      let r = S.draw t₁ in
      behind m r (Sumcheck.send Extension S k l (Table.fold ExtRing e r) (RoundSum.folded ExtRing c r) (S.drawn t₁))

  pub send_weighed : (k : ℕ) (l : E.Ext) (e : ℕ → E.Ext) (c : ℕ → Claims E.Ext) (t : S.Log) → Alike l (Sumcheck.send Extension S k l e c t) (Sumcheck.send Extension S k E.nil e (weighs l c) t)
  unfolding Sumcheck.send
  send_weighed zero l e c t = record { point = refl; log = refl; last = refl }
  send_weighed (suc k) l e c t =
      let m : Sumcheck.message Extension S k E.nil e (weighs l c) ≡ Sumcheck.message Extension S k l e c = (λ i. record {
        at1 = s_weighed k l e c E.one i;
        at2 = s_weighed k l e c (num ExtRing 2) i;
        at3 = s_weighed k l e c (num ExtRing 3) i;
      }) in
      let M = Sumcheck.message Extension S k l e c in
      let t₁ = Sumcheck.observe_cubic Extension S M t in
      let r = S.draw t₁ in
      let h = send_weighed k l (Table.fold ExtRing e r) (RoundSum.folded ExtRing c r) (S.drawn t₁) in
      let whole : turn k E.nil e (weighs l c) t (Sumcheck.message Extension S k E.nil e (weighs l c)) ≡ behind M r (Sumcheck.send Extension S k E.nil (Table.fold ExtRing e r) (weighs l (RoundSum.folded ExtRing c r)) (S.drawn t₁)) =
      ap (turn k E.nil e (weighs l c) t) m
      ∙ ap (λ d. behind M r (Sumcheck.send Extension S k E.nil (Table.fold ExtRing e r) d (S.drawn t₁))) (λ i y. fold_weighed l r c y i) in
      record {
        point = ap (λ s. s.point) whole ∙ ap (λ p. r ∷ p) h.point;
        log = ap (λ s. s.log) whole ∙ h.log;
        last = ap (λ s. s.last) whole ∙ h.last;
      }

weigh_back : (l n : E.Ext) (c : Claims E.Ext) → n ≡ minus E.nil l → weigh n (weigh l c) ≡ c
weigh_back l n c e = λ i. record {
  p0 = c.p0;
  q0 = c.q0;
  p1 = (ap (λ m. E.add (E.mul c.q1 m) (E.add (E.mul c.q1 l) c.p1)) e ∙ weighed_back c.p1 c.q1 l) i;
  q1 = c.q1;
}

-- WEIGHED BEFORE, TAKEN BACK AFTER
module _ (ws ws₁ : List ℕ) (at b k size : ℕ) (l : E.Ext) (z : size ≡ 2 ^ k) (u : 2 * b + 4 * size ≤ at) (w : Weighed ws ws₁ b size l) where
  cross_weighed : (i : ℕ) → i < size → RoundSum.cross ExtRing l (claims ws b i) ≡ RoundSum.cross ExtRing E.nil (claims ws₁ b i)
  cross_weighed i h = sym (weighed_cross l (claims ws b i)) ∙ numerator_cross (weigh l (claims ws b i)) ∙ ap (RoundSum.cross ExtRing E.nil) (sym (w.nodes i h))

  faced_weighed : (off : ℕ) → off < 2 → faced ws (at + size / 2) b off (size / 2) l ≡ faced ws₁ (at + size / 2) b off (size / 2) E.nil
  faced_weighed off h = TableLaws.sum_below ExtRing (size / 2) _ _ (λ y v. ap₂ E.mul (sym (w.above (at + size / 2 + y) (omega arith))) (cross_weighed (2 * y + off) (omega arith)))

  pub facing_weighed : (pt : List ℕ) (t : Turn) → Facing ws pt at b k (size / 2) l t → Facing ws₁ pt at b k (size / 2) E.nil t
  facing_weighed pt t F = record {
    heap = λ i y v h. w.above (at + 2 ^ i + y) (omega arith) ∙ F.heap i y v h;
    c = F.c;
    x = F.x;
    h0 = F.h0 ∙ faced_weighed 0 (omega arith);
    h1 = F.h1 ∙ faced_weighed 1 (omega arith);
  }

pub weighed_rounds : (ws ws₁ ws₂ ws₃ pt pt' : List ℕ) {s s' : State} (ch : Source E.Ext) (at b k size : ℕ) (l n : E.Ext) (t : Turn) → size ≡ 2 ^ k → 2 * b + 4 * size ≤ at → n ≡ minus E.nil l
    → Weighed ws ws₁ b size l → SubRounds ws₁ ws₂ pt pt' s s' ch at b k size E.nil t → Weighed ws₂ ws₃ b 1 n
    → SubRounds ws ws₃ pt pt' s s' ch at b k size l t
weighed_rounds ws ws₁ ws₂ ws₃ pt pt' {s} ch at b k size l n t z u o w R v =
    let g = Table.weight ExtRing (cells pt 0 k) in
    let e : sends g ws₁ ch b k E.nil s ≡ Sumcheck.send Extension (Drawing ch) k E.nil g (weighs l (claims ws b)) (log_of s) =
    send_same Extension (Drawing ch) k E.nil g g (claims ws₁ b) (weighs l (claims ws b)) (log_of s) (λ y q. refl) (λ y q. w.nodes y (subst (λ n. y < n) (sym z) q)) in
    let h = send_weighed (Drawing ch) k l g (claims ws b) (log_of s) in
    let p = pow_pos k in
    record {
      clean = v.clean;
      points = R.points;
      steps = R.steps;
      kept = λ i a. v.above i (omega (arith, p)) ∙ R.kept i a ∙ w.above i a;
      sent = λ F.
          let S = R.sent (facing_weighed ws ws₁ at b k size l z u w pt t F) in
          record {
            point = S.point ∙ ap (λ s. s.point) e ∙ h.point;
            last = v.nodes 0 (omega arith) ∙ ap (weigh n) (S.last ∙ ap (λ s. s.last) e ∙ h.last) ∙ weigh_back l n (sends g ws ch b k l s).last o;
            log = S.log ∙ ap (λ s. s.log) e ∙ h.log;
          };
    }
