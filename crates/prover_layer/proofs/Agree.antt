-- What the sub-rounds send depends only on the entries of the cube.
-- Assumes nothing.
use mathlib.Core.Path.{◌≡◌, ◌∙◌, ap, ap₂}
use mathlib.Core.List.{[], ◌∷◌}
use Prim.Native.Nat.{ℕ, zero, suc, ◌+◌, ◌*◌, ◌^◌, ◌<◌}
use native.Mathlib.Omega.{arith}
use Rattle.ring.specs.Ring.{CommRing, num}
use Rattle.ring.specs.Field.{Field}
use Rattle.multilinear.specs.Forms as Forms
use Rattle.multilinear.specs.Table as Table
use Rattle.multilinear.proofs.TableLaws as TableLaws
use Rattle.multilinear.specs.RoundSum as RoundSum
use Rattle.multilinear.specs.RoundSum.{Claims}
use Rattle.gkr.specs.Run.{Transcript, Cubic}
use Rattle.gkr.specs.Sumcheck as Sumcheck

module _ (F : Field) where
  abbrev K : CommRing
  K = F.ring

  abbrev R : Type 0
  R = F.ring.carrier

  abbrev Same : {A : Type 0} → ℕ → (ℕ → A) → (ℕ → A) → Type 0
  Same n f g = (y : ℕ) → y < n → f y ≡ g y

  fold_same : (k : ℕ) (e e' : ℕ → R) (x : R) → Same (2 ^ suc k) e e' → Same (2 ^ k) (Table.fold K e x) (Table.fold K e' x)
  unfolding Table.fold
  fold_same k e e' x h y l = ap₂ (λ a b. Forms.line K a b x) (h (2 * y) (omega arith)) (h (2 * y + 1) (omega arith))

  folded_same : (k : ℕ) (c c' : ℕ → Claims R) (x : R) → Same (2 ^ suc k) c c' → Same (2 ^ k) (RoundSum.folded K c x) (RoundSum.folded K c' x)
  unfolding Table.fold
  folded_same k c c' x h y l =
      let a = h (2 * y) (omega arith) in
      let b = h (2 * y + 1) (omega arith) in
      λ i. record {
        p0 = Forms.line K (a i).p0 (b i).p0 x;
        q0 = Forms.line K (a i).q0 (b i).q0 x;
        p1 = Forms.line K (a i).p1 (b i).p1 x;
        q1 = Forms.line K (a i).q1 (b i).q1 x;
      }

  s_same : (k : ℕ) (l : R) (e e' : ℕ → R) (c c' : ℕ → Claims R) (x : R) → Same (2 ^ suc k) e e' → Same (2 ^ suc k) c c' → RoundSum.s K k l e c x ≡ RoundSum.s K k l e' c' x
  unfolding RoundSum.s RoundSum.total
  s_same k l e e' c c' x he hc =
      TableLaws.sum_below K (2 ^ k) _ _ (λ y u. ap₂ (λ a b. K.mul a (RoundSum.cross K l b)) (fold_same k e e' x he y u) (folded_same k c c' x hc y u))

  module _ (S : Transcript R) where
    -- a turn from its message on
    abbrev turn : ℕ → R → (ℕ → R) → (ℕ → Claims R) → S.Log → Cubic R → Sumcheck.Sent F S
    turn k l e c t m =
        let t₁ = Sumcheck.observe_cubic F S m t in
        let r = S.draw t₁ in
        let rest = Sumcheck.send F S k l (Table.fold K e r) (RoundSum.folded K c r) (S.drawn t₁) in
        record { polys = m ∷ rest.polys; point = r ∷ rest.point; last = rest.last; log = rest.log }

    pub send_same : (k : ℕ) (l : R) (e e' : ℕ → R) (c c' : ℕ → Claims R) (t : S.Log) → Same (2 ^ k) e e' → Same (2 ^ k) c c' → Sumcheck.send F S k l e c t ≡ Sumcheck.send F S k l e' c' t
    unfolding Sumcheck.send
    send_same zero l e e' c c' t he hc = ap (λ a. record { polys = []; point = []; last = a; log = t }) (hc 0 (omega arith))
    send_same (suc k) l e e' c c' t he hc =
        let m : Sumcheck.message F S k l e c ≡ Sumcheck.message F S k l e' c' = (λ i. record {
          at1 = s_same k l e e' c c' K.one he hc i;
          at2 = s_same k l e e' c c' (num K 2) he hc i;
          at3 = s_same k l e e' c c' (num K 3) he hc i;
        }) in
        let m' = Sumcheck.message F S k l e' c' in
        let t₁ = Sumcheck.observe_cubic F S m' t in
        let r = S.draw t₁ in
        ap (turn k l e c t) m
        ∙ ap (λ rest. record { polys = m' ∷ rest.polys; point = r ∷ rest.point; last = rest.last; log = rest.log })
        (send_same k l (Table.fold K e r) (Table.fold K e' r) (RoundSum.folded K c r) (RoundSum.folded K c' r) (S.drawn t₁) (fold_same k e e' r he) (folded_same k c c' r hc))
