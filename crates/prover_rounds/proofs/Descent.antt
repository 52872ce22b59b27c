-- A round, and the rounds in turn, as the model sends them.
-- Assumes nothing.
use mathlib.Core.Path.{◌≡◌, refl, sym, ◌∙◌, ap, ap₂, fun_ext, subst}
use mathlib.Core.List.{List, ◌∷◌}
use Prim.Native.Nat.{ℕ, zero, suc, ◌+◌, ◌*◌, ◌-◌, ◌^◌, ◌<◌, ◌≤◌}
use native.Mathlib.Nat.{add-zero, pow-succ', pow-le-pow_right, le_refl, le_trans}
use native.Mathlib.Bridge.{le_by_compare, IsLe}
use native.Mathlib.Numerals.{add-one}
use native.Mathlib.Omega.{arith}
use lib.ListN.{length}
use Rattle.ring.specs.RingLaws as RingLaws
use Rattle.field.specs.Ext as E
use Rattle.field.specs.ExtRing.{ExtRing}
use Rattle.field.specs.Extension.{Extension}
use Rattle.field.specs.Element.{dec, Is}
use Rattle.field.specs.declared.Ext.{Ext}
use Rattle.field.specs.Cells.{cell, Clean, Stored, cells}
use Rattle.field.proofs.PointLaws.{cells_kept, cells_length}
use Rattle.multilinear.specs.Table as Table
use Rattle.multilinear.proofs.TableLaws as TableLaws
use Rattle.multilinear.specs.RoundSum as RoundSum
use Rattle.multilinear.specs.RoundSum.{Claims}
use Rattle.multilinear.proofs.RoundSumLaws as RoundSumLaws
use Rattle.gkr.specs.Run.{Frac}
use Rattle.gkr.specs.Transcripts.{Words, Source}
use Rattle.gkr.specs.Tree as Tree
use Rattle.gkr.specs.Sumcheck as Sumcheck
use Rattle.gkr.specs.SumcheckLaws as SumcheckLaws
use Rattle.gkr.specs.Gkr as Gkr
use Rattle.transcript.specs.Log.{Drawing, Enough, Observing, State, Steps, log_of}
use Rattle.transcript.proofs.Logs.{then, retold, no_steps, enough_after}
use Rattle.step.specs.declared.Frac.{Frac as FracW}
use Rattle.step.specs.Values.{IsFrac, dec_frac}
use Rattle.prover_tree.specs.Nodes.{node}
use Rattle.prover_tree.proofs.Memory.{frac_path}
use Rattle.prover_layer.specs.declared.Turn.{Turn}
use Rattle.prover_layer.specs.Columns.{claims}
use Rattle.prover_layer.specs.Message.{IsTurn}
use Rattle.prover_layer.specs.Heap.{Heaped}
use Rattle.prover_layer.proofs.Entries.{claims_kept}
use Rattle.prover_layer.proofs.Agree.{send_same}
use Rattle.prover_rounds.specs.SubRounds.{sends, SubRounds}
use Rattle.prover_rounds.proofs.Opening.{facing}
use Rattle.prover_rounds.specs.Layers.{observed_frac, observed_claims, RoundClosed, layer_sends, layer_told, Opened, OneLayer, Levels, log_up_to, used_up_to, runs, Running, AllLayers, Midway}

abbrev obs : E.Ext → Words → Words
obs x t = Observing.observe x t

pub node_observed : {s s₁ s₂ : State} (f : FracW) → Steps s s₁ 4 0 (obs (dec f.p) (log_of s)) → Steps s₁ s₂ 4 0 (obs (dec f.q) (log_of s₁)) → Steps s s₂ 8 0 (observed_frac (dec_frac f) (log_of s))
node_observed f a b = then a (retold refl refl (ap (obs (dec f.q)) a.log) b)

pub layer_closed : (ws : List ℕ) {pt pt' : List ℕ} {s s₁ s₂ s₃ : State} (ch : Source E.Ext) (b : ℕ) (mu : Ext) (fa fb : FracW) → IsFrac fa (node ws b) → IsFrac fb (node ws (b + 1))
    → Steps s s₁ 8 0 (observed_frac (dec_frac fa) (log_of s)) → Steps s₁ s₂ 8 0 (observed_frac (dec_frac fb) (log_of s₁))
    → Steps s₂ s₃ 4 1 ((Drawing ch).drawn (log_of s₂)) → Is mu (ch (log_of s₂)) → Stored pt pt' 0 (dec mu) → RoundClosed ws pt pt' s s₃ ch b
layer_closed ws {pt} {pt'} {s} {s₂ = s₂} ch b mu fa fb ha hb a c d v p =
    let e : log_of s₂ ≡ observed_claims (claims ws b 0) (log_of s) =
    c.log ∙ ap₂ observed_frac (frac_path hb) (a.log ∙ ap (λ f. observed_frac f (log_of s)) (frac_path ha ∙ ap (node ws) (sym (add-zero b)))) in
    record { steps = retold refl refl (ap (Drawing ch).drawn e) (then (then a c) d); stored = subst (Stored pt pt' 0) (v.value ∙ ap ch e) p }

pub one_layer : (ws ws₁ ws₂ pt pt₁ pt₂ : List ℕ) {s s₁ s₂ s₃ : State} (ch : Source E.Ext) (at k size : ℕ) (lambda : Ext) (t : Turn) → size ≡ 2 ^ k → 1 ≤ k → 8 * size ≤ at
    → Steps s s₁ 4 1 ((Drawing ch).drawn (log_of s)) → Is lambda (ch (log_of s))
    → IsTurn t E.one (cell pt 0) (E.add (E.mul (node ws size).q (dec lambda)) (node ws size).p) (E.add (E.mul (node ws (size + 1)).q (dec lambda)) (node ws (size + 1)).p)
    → Heaped ws ws₁ pt at k k
    → SubRounds ws₁ ws₂ pt pt₁ s₁ s₂ ch at (2 * size) k size (dec lambda) t
    → RoundClosed ws₂ pt₁ pt₂ s₂ s₃ ch (2 * size)
    → OneLayer ws ws₂ pt pt₂ s s₃ ch at k size
one_layer ws ws₁ ws₂ pt pt₁ pt₂ {s} {s₁} {s₂} ch at k size lambda t e o u a v T f L C =
    let b = 2 * size in
    let g = Table.weight ExtRing (cells pt 0 k) in
    record {
      clean = L.clean;
      points = C.stored.clean;
      steps = retold (omega arith) (omega arith) (sym C.steps.log) (then (then a L.steps) C.steps);
      kept = λ i l h. L.kept i (omega arith) ∙ f.below i (omega arith);
      sent = λ O.
          let S = L.sent (facing ws ws₁ pt at k size (dec lambda) e o u f t T O) in
          let same : sends g ws₁ ch b k (dec lambda) s₁ ≡ layer_sends ws pt ch b k s =
          ap (λ l. Sumcheck.send Extension (Drawing ch) k l g (claims ws₁ b) (log_of s₁)) v.value
          ∙ ap (λ t. Sumcheck.send Extension (Drawing ch) k (ch (log_of s)) g (claims ws₁ b) t) a.log
          ∙ send_same Extension (Drawing ch) k (ch (log_of s)) g g (claims ws₁ b) (claims ws b) ((Drawing ch).drawn (log_of s)) (λ y w. refl)
          (λ y w. let w' : y < size = subst (λ n. y < n) (sym e) w in claims_kept ws ws₁ b y (λ j l h. f.below j (omega arith))) in
          let q : observed_claims (claims ws₂ b 0) (log_of s₂) ≡ layer_told ws pt ch b k s =
          ap₂ observed_claims (S.last ∙ ap (λ s. s.last) same) (S.log ∙ ap (λ s. s.log) same) in
          record {
            mu = C.stored.here ∙ ap ch q;
            point = cells_kept pt₁ pt₂ 1 k (λ i l h. C.stored.rest i (λ q. omega arith)) ∙ S.point ∙ ap (λ s. s.point) same;
            last = S.last ∙ ap (λ s. s.last) same;
            log = C.steps.log ∙ ap (Drawing ch).drawn q;
          };
    }

pow_le : (d n : ℕ) → d ≤ n → 2 ^ d ≤ 2 ^ n
unfolding IsLe
pow_le d n h = pow-le-pow_right (le_by_compare 1 2 tt) h

-- THE LAYERS IN TURN

-- the claims that end a layer are the values at its point
lasts : (ch : Source E.Ext) (xi : List E.Ext) (l : E.Ext) (pq : ℕ → Claims E.Ext) (t : Words)
    → let P = Sumcheck.send Extension (Drawing ch) (length xi) l (Table.weight ExtRing xi) pq t in P.last ≡ RoundSum.values ExtRing pq P.point
lasts ch xi l pq t =
    (SumcheckLaws.honest Extension (Drawing ch) xi l (Table.weight ExtRing xi) pq t E.one _ (fun_ext (λ y. sym (RingLaws.one_mul ExtRing (Table.weight ExtRing xi y)))) refl).lasts

-- the columns under a layer's point, from what the level below them holds
module _ (f : ℕ → Frac E.Ext) (ws pt : List ℕ) (n r h size : ℕ) (e : size ≡ 2 ^ r) (o : 1 ≤ r) (q : r + suc h ≡ n) (L : Levels f ws n r) where
  two : 2 * size ≡ 2 ^ suc r
  two = ap (λ n. 2 * n) e ∙ sym (pow-succ' 2 r)

  below : (i : ℕ) → i < 2 ^ suc r → node ws (2 * size + i) ≡ Tree.tree ExtRing f h i
  below i l = ap (λ k. node ws (k + i)) two ∙ L.holds (suc r) h i (omega arith) (omega arith) l

  pub columns : (y : ℕ) → y < 2 ^ r → claims ws (2 * size) y ≡ Tree.children ExtRing (Tree.tree ExtRing f h) y
  columns y l i = let a = below (2 * y) (omega arith) i in let c = below (2 * y + 1) (omega arith) i in record { p0 = a.p; q0 = a.q; p1 = c.p; q1 = c.q }

  -- a node is the sum of its children
  parents : (y : ℕ) → y < 2 ^ r → Tree.tree ExtRing f (suc h) y ≡ Tree.compute_recursive_relations ExtRing (claims ws (2 * size) y)
  unfolding Tree.tree
  parents y l = ap (Tree.compute_recursive_relations ExtRing) (sym (columns y l))

  half_le : (y : ℕ) → y < 2 ^ length (cells pt 1 (r - 1)) → 2 * y + 1 < 2 ^ r
  half_le y l =
      let a = cells_length pt 1 (r - 1) in
      let b : r ≡ suc (r - 1) = omega arith in
      let c : 2 ^ r ≡ 2 * 2 ^ (r - 1) = ap (λ n. 2 ^ n) b ∙ pow-succ' 2 (r - 1) in
      let d : y < 2 ^ (r - 1) = subst (λ n. y < 2 ^ n) a l in
      omega (arith, c, d)

  pub opened : claims ws (2 ^ r) 0 ≡ RoundSum.values ExtRing (Tree.children ExtRing (Tree.tree ExtRing f (suc h))) (cells pt 1 (r - 1)) → Opened ws pt r size
  opened B =
      ap (λ n. claims ws n 0) e ∙ B
      ∙ (λ i. record {
        p0 = TableLaws.value_agrees ExtRing _ _ zs (λ y l. ap (λ a. a.p) (parents (2 * y) (even y l))) i;
        q0 = TableLaws.value_agrees ExtRing _ _ zs (λ y l. ap (λ a. a.q) (parents (2 * y) (even y l))) i;
        p1 = TableLaws.value_agrees ExtRing _ _ zs (λ y l. ap (λ a. a.p) (parents (2 * y + 1) (half_le y l))) i;
        q1 = TableLaws.value_agrees ExtRing _ _ zs (λ y l. ap (λ a. a.q) (parents (2 * y + 1) (half_le y l))) i;
      })
    where
      zs : List E.Ext
      zs = cells pt 1 (r - 1)

      even : (y : ℕ) → y < 2 ^ length (cells pt 1 (r - 1)) → 2 * y < 2 ^ r
      even y l = let w = half_le y l in omega (arith, w)

module _ (f : ℕ → Frac E.Ext) (ws ws' pt₀ pt pt' : List ℕ) {s₀ s s' : State} (ch : Source E.Ext) (at n r h g size : ℕ) where
  pub running_next : size ≡ 2 ^ r → 1 ≤ r → r + suc h ≡ n → 4 * 2 ^ n ≤ at → Running f ws pt₀ pt s₀ s ch n r (suc h) g → OneLayer ws ws' pt pt' s s' ch at r size
      → Running f ws' pt₀ pt' s₀ s' ch n (r + 1) h g
  unfolding Gkr.send
  running_next e o q u R L =
      let z = cells pt 0 r in
      let t = log_of s in
      let pq = Tree.children ExtRing (Tree.tree ExtRing f h) in
      let P = Sumcheck.send Extension (Drawing ch) (length z) (ch t) (Table.weight ExtRing z) pq ((Drawing ch).drawn t) in
      let t₁ = Gkr.observe_layer_claims Extension (Drawing ch) P.last P.log in
      let b = 2 * size in
      let S = L.sent (opened f ws pt n r h size e o q R.levels R.before) in
      let same : layer_sends ws pt ch b r s ≡ P =
      send_same Extension (Drawing ch) r (ch t) (Table.weight ExtRing z) (Table.weight ExtRing z) (claims ws b) pq ((Drawing ch).drawn t) (λ y l. refl) (columns f ws pt n r h size e o q R.levels)
      ∙ ap (λ k. Sumcheck.send Extension (Drawing ch) k (ch t) (Table.weight ExtRing z) pq ((Drawing ch).drawn t)) (sym (cells_length pt 0 r)) in
      let told : layer_told ws pt ch b r s ≡ t₁ = ap (λ s. Gkr.observe_layer_claims Extension (Drawing ch) s.last s.log) same in
      let rhos : cells pt' 1 r ≡ P.point = S.point ∙ ap (λ s. s.point) same in
      let on : runs f pt' ch h (r + 1) s' ≡ Gkr.send Extension (Drawing ch) f h (ch t₁ ∷ P.point) ((Drawing ch).drawn t₁) =
      ap₂ (Gkr.send Extension (Drawing ch) f h) (ap (cells pt' 0) (add-one r) ∙ ap₂ (λ x s. x ∷ s) (S.mu ∙ ap ch told) rhos) (S.log ∙ ap (Drawing ch).drawn told) in
      let two : b ≡ 2 ^ suc r = ap (λ n. 2 * n) e ∙ sym (pow-succ' 2 r) in
      let one : r + 1 - 1 ≡ r = omega arith in
      record {
        levels = record {
          holds = λ d k i a l v.
              let w : 2 ^ suc (suc r) ≤ 2 ^ d = pow_le (suc (suc r)) d (omega arith) in
              let x : 2 ^ d ≤ 2 ^ n = pow_le d n (omega arith) in
              let y : 2 ^ suc (suc r) ≡ 4 * size = pow-succ' 2 (suc r) ∙ ap (λ n. 2 * n) (sym two) ∙ omega arith in
              (λ j. record { p = L.kept (2 * (2 ^ d + i)) (omega arith) (omega arith) j; q = L.kept (2 * (2 ^ d + i) + 1) (omega arith) (omega arith) j })
              ∙ R.levels.holds d k i a (omega arith) v;
        };
        before =
            ap (λ n. claims ws' (2 ^ n) 0) (add-one r) ∙ ap (λ n. claims ws' n 0) (sym two) ∙ S.last ∙ ap (λ s. s.last) same ∙ lasts ch z (ch t) pq ((Drawing ch).drawn t)
            ∙ ap (RoundSum.values ExtRing pq) (sym rhos ∙ ap (cells pt' 1) (sym one));
        point = ap (λ s. s.point) on ∙ R.point;
        log = ap (λ s. s.log) on ∙ R.log;
      }

log_next : (r : ℕ) → log_up_to (r + 1) ≡ log_up_to r + (16 * r + 24)
unfolding log_up_to
log_next r = ap log_up_to (add-one r)

used_next : (r : ℕ) → used_up_to (r + 1) ≡ used_up_to r + (r + 2)
unfolding used_up_to
used_next r = ap used_up_to (add-one r)

grows : (f : ℕ → ℕ) → ((r : ℕ) → f r ≤ f (suc r)) → (r d : ℕ) → f r ≤ f (d + r)
grows f h r zero = let e : r ≡ 0 + r = omega arith in subst (λ k. f r ≤ f k) e (le_refl _)
grows f h r (suc d) = let e : suc (d + r) ≡ suc d + r = omega arith in subst (λ k. f r ≤ f k) e (le_trans (grows f h r d) (h (d + r)))

log_grows : (r d : ℕ) → log_up_to r ≤ log_up_to (d + r)
unfolding log_up_to
log_grows = grows log_up_to (λ r. omega arith)

used_grows : (r d : ℕ) → used_up_to r ≤ used_up_to (d + r)
unfolding used_up_to
used_grows = grows used_up_to (λ r. omega arith)

-- the room of a layer, from the room of all
pub log_room_fits : (r n : ℕ) → r < n → log_up_to r + (16 * r + 24) ≤ log_up_to n
unfolding log_up_to
log_room_fits r n h = let e : n - suc r + suc r ≡ n = omega arith in subst (λ k. log_up_to (suc r) ≤ log_up_to k) e (log_grows (suc r) (n - suc r))

pub used_room : (r n : ℕ) → r < n → used_up_to r + (r + 2) ≤ used_up_to n
unfolding used_up_to
used_room r n h = let e : n - suc r + suc r ≡ n = omega arith in subst (λ k. used_up_to (suc r) ≤ used_up_to k) e (used_grows (suc r) (n - suc r))

-- layer 0 is below
pub first_log : (r : ℕ) → 1 ≤ r → log_up_to 1 ≤ log_up_to r
first_log r h = let e : r - 1 + 1 ≡ r = omega arith in subst (λ k. log_up_to 1 ≤ log_up_to k) e (log_grows 1 (r - 1))

pub first_used : (r : ℕ) → 1 ≤ r → used_up_to 1 ≤ used_up_to r
first_used r h = let e : r - 1 + 1 ≡ r = omega arith in subst (λ k. used_up_to 1 ≤ used_up_to k) e (used_grows 1 (r - 1))

-- each challenge is in the log
used_in_log : (r : ℕ) → used_up_to (suc r) + log_up_to 1 ≤ log_up_to (suc r) + used_up_to 1
unfolding used_up_to log_up_to
used_in_log zero = omega arith
used_in_log (suc r) = omega (arith, used_in_log r)

-- before layer r
module _ (ws₀ ws pt₀ pt : List ℕ) {s₀ s : State} (ch : Source E.Ext) (n r : ℕ) (M : Midway ws₀ ws pt₀ pt s₀ s ch n r) where
  pub enough_midway : r < n → Enough s₀ (used_up_to n - used_up_to 1) → Enough s (r + 2)
  enough_midway l e =
      let i : suc (r - 1) ≡ r = omega (arith, M.from) in
      let u : used_up_to r + log_up_to 1 ≤ log_up_to r + used_up_to 1 = subst (λ r. used_up_to r + log_up_to 1 ≤ log_up_to r + used_up_to 1) i (used_in_log (r - 1)) in
      enough_after (used_up_to n - used_up_to 1) (omega (arith, u)) (omega (arith, first_used r M.from, used_room r n l)) M.steps e

pub midway_none : (ws pt : List ℕ) (s : State) (ch : Source E.Ext) (n : ℕ) → 1 ≤ n → Clean ws → Clean pt → Midway ws ws pt pt s s ch n 1
midway_none ws pt s ch n h c d = record {
  from = omega arith;
  upto = h;
  clean = c;
  points = d;
  steps = retold (omega arith) (omega arith) refl (no_steps s);
  run = λ f g e L. let q : n - 1 ≡ g = omega arith in
      let a : node ws 2 ≡ Tree.tree ExtRing f (n - 1) 0 = L.holds 1 (n - 1) 0 (omega arith) (omega arith) (omega arith) in
      let b : node ws 3 ≡ Tree.tree ExtRing f (n - 1) 1 = L.holds 1 (n - 1) 1 (omega arith) (omega arith) (omega arith) in
      record {
        levels = record { holds = λ d k i v w l. L.holds d k i v (omega arith) l };
        before = (λ i. record { p0 = (a i).p; q0 = (a i).q; p1 = (b i).p; q1 = (b i).q }) ∙ sym (RoundSumLaws.values_nil Extension (Tree.children ExtRing (Tree.tree ExtRing f (n - 1))));
        point = ap (λ h. (runs f pt ch h 1 s).point) q;
        log = ap (λ h. (runs f pt ch h 1 s).log) q;
      };
}

pub midway_next : (ws₀ ws ws' pt₀ pt pt' : List ℕ) {s₀ s s' : State} (ch : Source E.Ext) (at n r size : ℕ) → size ≡ 2 ^ r → r < n → 4 * 2 ^ n ≤ at
    → Midway ws₀ ws pt₀ pt s₀ s ch n r → OneLayer ws ws' pt pt' s s' ch at r size → Midway ws₀ ws' pt₀ pt' s₀ s' ch n (r + 1)
midway_next ws₀ ws ws' pt₀ pt pt' {s₀} {s} ch at n r size e l u M L =
    let lr = first_log r M.from in
    let ur = first_used r M.from in
    record {
      from = omega (arith, M.from);
      upto = omega arith;
      clean = L.clean;
      points = L.points;
      steps = retold (omega (arith, log_next r, lr)) (omega (arith, used_next r, ur)) refl (then M.steps L.steps);
      run = λ f g en Lv.
          let m = n - (r + 1) in
          let z : n - r ≡ suc m = omega arith in
          running_next f ws ws' pt₀ pt pt' ch at n r m g size e M.from (omega arith) u (subst (λ h. Running f ws pt₀ pt s₀ s ch n r h g) z (M.run f g en Lv)) L;
    }

-- the loop's end, where r is n
pub midway_steps : (ws₀ ws pt₀ pt : List ℕ) {s₀ s : State} (ch : Source E.Ext) (n r : ℕ) → r ≡ n → Midway ws₀ ws pt₀ pt s₀ s ch n r → Steps s₀ s (log_up_to n - log_up_to 1) (used_up_to n - used_up_to 1) (log_of s)
midway_steps ws₀ ws pt₀ pt ch n r q M = retold (ap (λ r. log_up_to r - log_up_to 1) q) (ap (λ r. used_up_to r - used_up_to 1) q) refl M.steps

pub midway_end : (ws₀ ws pt₀ pt : List ℕ) {s₀ s : State} (ch : Source E.Ext) (n r : ℕ) → r ≡ n → Midway ws₀ ws pt₀ pt s₀ s ch n r
    → (f : ℕ → Frac E.Ext) (g : ℕ) → n ≡ suc g → Levels f ws₀ n 0 → AllLayers f pt₀ pt s₀ s ch n g
unfolding Gkr.send
midway_end ws₀ ws pt₀ pt {s₀} {s} ch n r q M f g e L =
    let z : n - r ≡ 0 = omega arith in
    let R = subst (λ h. Running f ws pt₀ pt s₀ s ch n r h g) z (M.run f g e L) in
    record { point = ap (cells pt 0) (sym q) ∙ R.point; steps = retold refl refl R.log (midway_steps ws₀ ws pt₀ pt ch n r q M) }
