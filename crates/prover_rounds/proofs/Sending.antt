-- The sub-rounds of a round, as the model sends them.
-- Assumes nothing.
use mathlib.Core.Path.{◌≡◌, refl, sym, ◌∙◌, ap, ap₂, fun_ext, subst}
use mathlib.Core.List.{List, [], ◌∷◌, ◌++◌, append_assoc, append-nil}
use Prim.Native.Nat.{ℕ, suc, ◌+◌, ◌*◌, ◌-◌, ◌/◌, ◌^◌, ◌<◌, ◌≤◌}
use native.Mathlib.Nat.{pow-succ'}
use native.Mathlib.Numerals.{add-one}
use native.Mathlib.Omega.{arith}
use Rattle.ring.specs.RingLaws as RingLaws
use Rattle.field.specs.Ext as E
use Rattle.field.specs.ExtRing.{ExtRing}
use Rattle.field.specs.Extension.{Extension}
use Rattle.field.specs.Element.{dec, Is}
use Rattle.field.specs.declared.Ext.{Ext}
use Rattle.field.specs.Cells.{cell, Clean, Stored, cells}
use Rattle.field.proofs.PointLaws.{cells_snoc, cells_kept}
use Rattle.multilinear.specs.Forms as Forms
use Rattle.multilinear.specs.Table as Table
use Rattle.multilinear.proofs.TableLaws as TableLaws
use Rattle.multilinear.specs.RoundSum as RoundSum
use Rattle.gkr.specs.Run.{Cubic}
use Rattle.gkr.specs.Transcripts.{Words, Source}
use Rattle.gkr.specs.Sumcheck as Sumcheck
use Rattle.transcript.specs.Log.{Drawing, Observing, State, Steps, log_of}
use Rattle.transcript.proofs.Logs.{then, retold, no_steps}
use Rattle.step.specs.declared.Three.{Three}
use Rattle.step.specs.Values.{IsThree, two, three}
use Rattle.step.proofs.Pairs.{numerator_cross}
use Rattle.prover_layer.specs.declared.Turn.{Turn}
use Rattle.prover_layer.specs.Columns.{claims}
use Rattle.prover_layer.specs.Message.{CanonTurn, IsTurn, said}
use Rattle.prover_layer.specs.Passes.{side_sum, lead, Risen, Folded}
use Rattle.prover_layer.proofs.Passing.{fold_is}
use Rattle.prover_layer.proofs.Agree.{send_same}
use Rattle.prover_rounds.specs.SubRounds.{observed_three, spoken, told, SubSent, sends, eq_from, faced, Facing, Told, Going, SubRounds}
use Rattle.prover_rounds.proofs.Speaking.{said_true}

abbrev obs : E.Ext → Words → Words
obs x t = Observing.observe x t

pub three_observed : {s s₁ s₂ s₃ : State} (m : Three) → Steps s s₁ 4 0 (obs (dec m.s1) (log_of s)) → Steps s₁ s₂ 4 0 (obs (dec m.s2) (log_of s₁)) → Steps s₂ s₃ 4 0 (obs (dec m.s3) (log_of s₂))
    → Steps s s₃ 12 0 (observed_three m (log_of s))
three_observed m a b c =
    let b' = retold refl refl (ap (obs (dec m.s2)) a.log) b in
    then a (then b' (retold refl refl (ap (obs (dec m.s3)) b'.log) c))

-- ONE SUB-ROUND
pub sub_done : (ws ws₁ ws₂ : List ℕ) {pt pt' : List ℕ} {s s₁ s₂ : State} (ch : Source E.Ext) (at b half : ℕ) {i : ℕ} (t : Turn) (rho : Ext) (m : Three)
    → IsThree m (said t (lead ws at b half) E.one) (said t (lead ws at b half) two) (said t (lead ws at b half) three) → Risen ws ws₁ b half
    → Steps s s₁ 12 0 (observed_three m (log_of s)) → Steps s₁ s₂ 4 1 ((Drawing ch).drawn (log_of s₁)) → Is rho (ch (log_of s₁))
    → Stored pt pt' i (dec rho) → Folded ws₁ ws₂ b half (dec rho) → SubSent ws ws₂ pt pt' s s₂ ch at b half i t
sub_done ws ws₁ ws₂ {pt} {pt'} {s} ch at b half {i} t rho m v h a c x p f =
    let M : ◌≡◌ {A = Cubic E.Ext} (record { at1 = dec m.s1; at2 = dec m.s2; at3 = dec m.s3 }) (spoken ws at b half t) =
    (λ i. record { at1 = v.s1.value i; at2 = v.s2.value i; at3 = v.s3.value i }) in
    let g = a.log ∙ ap (λ M. Sumcheck.observe_cubic Extension (Drawing ch) M (log_of s)) M in
    let r : dec rho ≡ ch (told ws ch at b half t s) = x.value ∙ ap ch g in
    record {
      steps = retold refl refl (ap (Drawing ch).drawn g) (then a c);
      stored = subst (Stored pt pt' i) r p;
      clean = f.clean;
      nodes = λ y l. fold_is ws ws₁ ws₂ b half _ h f y l ∙ ap (λ z. RoundSum.folded ExtRing (claims ws b) z y) r;
      kept = λ j l. f.above j (omega arith) ∙ h.above j l;
    }

-- THE LOOP

-- a lambda of nothing leaves the numerators
faced_none : (ws : List ℕ) (at b off n : ℕ) → faced ws at b off n E.nil ≡ side_sum ws at b off n
faced_none ws at b off n = TableLaws.sum_cong ExtRing n (λ y. ap (E.mul (cell ws (at + y))) (sym (numerator_cross (claims ws b (2 * y + off)))))

pub going_none : (ws pt : List ℕ) (s : State) (ch : Source E.Ext) (at b m k half size : ℕ) (t : Turn) → m ≡ k → half ≡ size / 2 → Clean ws → Clean pt → CanonTurn t
    → Going ws ws pt pt s s ch at b 0 m k half size t t
going_none ws pt s ch at b m k half size t e eh h q n = record {
  clean = h;
  points = q;
  canon = n;
  later = λ i l. refl;
  steps = no_steps s;
  kept = λ i l. refl;
  run = λ F.
      let w : eq_from t pt 0 m ≡ Table.weight ExtRing (cells pt 0 k) =
      fun_ext (λ i. ap₂ (λ c m. E.mul c (Table.weight ExtRing (cells pt 0 m) i)) F.c e ∙ RingLaws.one_mul ExtRing _) in
      let p : sends (eq_from t pt 0 m) ws ch b m E.nil s ≡ sends (Table.weight ExtRing (cells pt 0 k)) ws ch b k E.nil s =
      ap₂ (λ g m. sends g ws ch b m E.nil s) w e in
      record {
        x = F.x;
        h0 = F.h0 ∙ ap (λ n. faced ws (at + n) b 0 n E.nil) (sym eh) ∙ faced_none ws (at + half) b 0 half;
        h1 = F.h1 ∙ ap (λ n. faced ws (at + n) b 1 n E.nil) (sym eh) ∙ faced_none ws (at + half) b 1 half;
        point = ap (λ s. s.point) p;
        last = ap (λ s. s.last) p;
        log = ap (λ s. s.log) p;
      };
}

module _ (ws₀ ws ws' pt₀ pt pt' : List ℕ) {s₀ s s' : State} (ch : Source E.Ext) (at b j m k half half' size : ℕ) (t₀ t t' : Turn) (old rho : Ext)
    (ek : j + suc m ≡ k) (eh : half ≡ 2 ^ m) (room : 2 * b + 4 * size ≤ at) (fits : 2 * half ≤ size)
    (g : Going ws₀ ws pt₀ pt s₀ s ch at b j (suc m) k half size t₀ t)
    (d : SubSent ws ws' pt pt' s s' ch (at + half) b half (j + 1) t)
    (o : Is old (cell pt (j + 1))) (r : Is rho (cell pt' (j + 1)))
    (n : IsTurn t' (E.mul (dec t.c) (Forms.agree ExtRing (dec t.x) (dec rho))) (dec old) (side_sum ws' (at + half') b 0 half') (side_sum ws' (at + half') b 1 half')) where
  told_next : Facing ws₀ pt₀ at b k (size / 2) E.nil t₀ → Told ws₀ ws' pt₀ pt' s₀ s' ch at b (j + 1) m k half' t'
  unfolding Sumcheck.send
  told_next F =
      let T = g.run F in
      let S = Drawing ch in
      let xs = cells pt₀ (suc j) m in
      let eq = eq_from t pt₀ j (suc m) in
      let kj : k - m ≡ suc j = omega arith in
      let w : (y : ℕ) → y < half → cell ws (at + half + y) ≡ Table.weight ExtRing xs y =
      (λ y l. g.kept (at + half + y) (omega arith) ∙ ap (λ n. cell ws₀ (at + n + y)) eh ∙ F.heap m y (omega arith) (subst (λ n. y < n) eh l) ∙ ap (λ n. Table.weight ExtRing (cells pt₀ n m) y) kj) in
      let sp : (z : E.Ext) → said t (lead ws (at + half) b half) z ≡ RoundSum.s ExtRing m E.nil eq (claims ws b) z =
      (λ z. said_true ws (at + half) b m half t xs eh w T.h0 T.h1 z ∙ ap (λ x. RoundSum.s ExtRing m E.nil (λ i. E.mul (dec t.c) (Table.weight ExtRing (x ∷ xs) i)) (claims ws b) z) T.x) in
      let M : spoken ws (at + half) b half t ≡ Sumcheck.message Extension S m E.nil eq (claims ws b) = (λ i. record { at1 = sp E.one i; at2 = sp two i; at3 = sp three i }) in
      let t₁ = Sumcheck.observe_cubic Extension S (Sumcheck.message Extension S m E.nil eq (claims ws b)) (log_of s) in
      let q : told ws ch (at + half) b half t s ≡ t₁ = ap (λ M. Sumcheck.observe_cubic Extension S M (log_of s)) M in
      let z = ch t₁ in
      let rest = Sumcheck.send Extension S m E.nil (Table.fold ExtRing eq z) (RoundSum.folded ExtRing (claims ws b) z) (S.drawn t₁) in
      let one : j + 1 ≡ suc j = add-one j in
      let zr : cell pt' (j + 1) ≡ z = d.stored.here ∙ ap ch q in
      let eqs : (y : ℕ) → eq_from t' pt₀ (j + 1) m y ≡ Table.fold ExtRing eq z y =
      (λ y. ap₂ (λ c n. E.mul c (Table.weight ExtRing (cells pt₀ n m) y)) (n.c.value ∙ ap₂ (λ x r. E.mul (dec t.c) (Forms.agree ExtRing x r)) T.x (r.value ∙ zr)) one
      ∙ sym (TableLaws.fold_weight ExtRing (dec t.c) (cell pt₀ j) z xs y)) in
      let same : sends (eq_from t' pt₀ (j + 1) m) ws' ch b m E.nil s' ≡ rest =
      ap (λ u. Sumcheck.send Extension S m E.nil (eq_from t' pt₀ (j + 1) m) (claims ws' b) u) (d.steps.log ∙ ap S.drawn q)
      ∙ send_same Extension S m E.nil (eq_from t' pt₀ (j + 1) m) _ (claims ws' b) _ (S.drawn t₁) (λ y v. eqs y)
      (λ y v. d.nodes y (subst (λ n. y < n) (sym eh) v) ∙ ap (λ u. RoundSum.folded ExtRing (claims ws b) (ch u) y) q) in
      let i : 1 + j ≡ j + 1 = omega arith in
      let seg : cells pt' 1 (j + 1) ≡ cells pt 1 j ++ (z ∷ []) =
      ap (cells pt' 1) one ∙ cells_snoc pt' 1 j
      ∙ ap₂ (λ a x. a ++ (x ∷ [])) (cells_kept pt pt' 1 j (λ i a b. d.stored.rest i (λ q. omega arith))) (ap (cell pt') i ∙ zr) in
      record {
        x = n.x.value ∙ o.value ∙ g.later (j + 1) (omega arith);
        h0 = n.h0.value;
        h1 = n.h1.value;
        point = ap₂ ◌++◌ seg (ap (λ s. s.point) same) ∙ append_assoc (cells pt 1 j) (z ∷ []) rest.point ∙ T.point;
        last = ap (λ s. s.last) same ∙ T.last;
        log = ap (λ s. s.log) same ∙ T.log;
      }

  pub going_next : Going ws₀ ws' pt₀ pt' s₀ s' ch at b (j + 1) m k half' size t₀ t'
  going_next = record {
    clean = d.clean;
    points = d.stored.clean;
    canon = record { c = n.c.canon; x = n.x.canon; h0 = n.h0.canon; h1 = n.h1.canon };
    later = λ i l. d.stored.rest i (λ q. omega arith) ∙ g.later i (omega arith);
    steps = retold (omega arith) refl (sym d.steps.log) (then g.steps d.steps);
    kept = λ i l. d.kept i (omega arith) ∙ g.kept i l;
    run = told_next;
  }

pub going_end : (ws₀ ws pt₀ pt : List ℕ) {s₀ s : State} (ch : Source E.Ext) (at b j m k half size : ℕ) (t₀ t : Turn) → j ≡ k → m ≡ 0 → Going ws₀ ws pt₀ pt s₀ s ch at b j m k half size t₀ t
    → SubRounds ws₀ ws pt₀ pt s₀ s ch at b k size E.nil t₀
unfolding Sumcheck.send
going_end ws₀ ws pt₀ pt {s = s} ch at b j m k half size t₀ t e z g =
    record {
      clean = g.clean;
      points = g.points;
      steps = retold (ap (λ n. 16 * n) e) e refl g.steps;
      kept = g.kept;
      sent = λ F.
          let T = g.run F in
          let none : sends (eq_from t pt₀ j m) ws ch b m E.nil s ≡ record { polys = []; point = []; last = claims ws b 0; log = log_of s } = ap (λ m. sends (eq_from t pt₀ j m) ws ch b m E.nil s) z in
          record {
            point = ap (cells pt 1) (sym e) ∙ sym (append-nil (cells pt 1 j)) ∙ ap (λ s. cells pt 1 j ++ s.point) (sym none) ∙ T.point;
            last = ap (λ s. s.last) (sym none) ∙ T.last;
            log = ap (λ s. s.log) (sym none) ∙ T.log;
          };
    }

-- the half that halves with each sub-round
pub half_down : (half m : ℕ) → half ≡ 2 ^ suc m / 2 → half ≡ 2 ^ m
half_down half m e = let q = pow-succ' 2 m in omega (arith, q, e)
