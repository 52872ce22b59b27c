-- Bad challenges are few: 1, 3 or 1 at a step, whatever is on the table.
-- Assumes nothing.
use Rattle.std.specs.Prelude.{ℕ, suc, ◌≡◌, [], ◌∷◌}
use Rattle.std.proofs.Math.Path.{sym}
use Rattle.std.proofs.Common.{◌∙◌, ap, le_trans, arith}
use Rattle.ring.specs.Ring.{num}
use Rattle.ring.specs.Field.{Field}
use Rattle.ring.proofs.Quote.{ring, ring_by, quote, ◌▷◌}
use Rattle.multilinear.specs.Forms
use Rattle.multilinear.specs.Interpolate
use Rattle.multilinear.specs.Table
use Rattle.multilinear.specs.RoundSum
use Rattle.multilinear.specs.RoundSum.{Claims}
use Rattle.multilinear.proofs.RoundSumLaws
use Rattle.gkr.specs.Run.{Frac, Cubic}
use Rattle.gkr.specs.Tree
use Rattle.domain.specs.Field.{Domain}
use Rattle.soundness.specs.Few.{AtMost}
use Rattle.soundness.specs.FewLaws.{at_most_sub, at_most_when}
use Rattle.soundness.specs.Agree.{few_lines, few_cubics}
use Rattle.soundness.specs.Steps.{Step, batching, subround, joining, most, batched, next_claim, bound, bound_claims, true_claims, true_children, true_sum, bad}

module _ (F : Field) (D : Domain F.ring) where
  open F use {ring as K}
  open F.ring use {carrier as R, add as ◌+◌, mul as ◌*◌, neg, nil, one}

  infixl 65 ◌+◌ ◌-◌
  infixl 70 ◌*◌
  abbrev ◌-◌ : R → R → R
  ◌-◌ = Forms.◌-◌ K

  abbrev reduce : Claims R → R → Frac R
  reduce = Tree.reduce_to_single_evaluation K

  -- the honest message: s at 1, 2 and 3
  abbrev honest : (k : ℕ) (lambda : R) (e : ℕ → R) (pq : ℕ → Claims R) → Cubic R
  honest k lambda e pq = let s = RoundSum.s K k lambda e pq in record { at1 = s one; at2 = s (num K 2); at3 = s (num K 3) }

  -- ONE SUB-ROUND: where the claim or the message is not the honest one, at most 3 challenges make the next claim true
  pub few_messages : (k : ℕ) (lambda : R) (e : ℕ → R) (pq : ℕ → Claims R) (claim : R) (m : Cubic R)
      → ¬ ((claim ≡ RoundSum.total K (suc k) lambda e pq) × (m ≡ honest k lambda e pq))
      → AtMost 3 (λ rho. next_claim F claim m rho ≡ RoundSum.total K k lambda (Table.fold K e rho) (RoundSum.folded K pq rho))
  unfolding RoundSum.s
  few_messages k lambda e pq claim m n =
      let s = RoundSum.s K k lambda e pq in
      at_most_sub 3 (λ rho. next_claim F claim m rho ≡ Interpolate.through F s rho) _
      (λ rho h. h ∙ sym (RoundSumLaws.s_through F k lambda e pq rho))
      (few_cubics F D (claim - m.at1) m.at1 m.at2 m.at3 (s nil) (s one) (s (num K 2)) (s (num K 3))
      (λ h. n (
        whole claim m.at1 (s nil) (s one) h.0 h.1 ∙ sym (RoundSumLaws.s_splits F k lambda e pq),
        λ i. record { at1 = h.1 i; at2 = h.2 i; at3 = h.3 i },
      )))
    where
      whole : (a b c d : R) → a - b ≡ c → b ≡ d → a ≡ c + d
      whole a b c d e g = ring_by K (a ∷ b ∷ c ∷ d ∷ []) (one ▷ e ∷ one ▷ g ∷ []) (search quote) tt

  few_batching : (v w : Frac R) → ¬ (v ≡ w) → AtMost 1 (λ lambda. batched F v lambda ≡ batched F w lambda)
  few_batching v w n = few_lines F D v.p v.q w.p w.q (λ e. n (λ i. record { p = e.0 i; q = e.1 i }))

  few_joining : (c d : Claims R) → ¬ (c ≡ d) → AtMost 1 (λ mu. reduce c mu ≡ reduce d mu)
  few_joining c d n = go (D.decide c.p0 d.p0) (D.decide c.p1 d.p1)
    where
      both : (a b a' b' : R) → (a ≡ a') × (b - a ≡ b' - a') → b ≡ b'
      both a b a' b' e = ring_by K (a ∷ b ∷ a' ∷ b' ∷ []) (one ▷ e.0 ∷ one ▷ e.1 ∷ []) (search quote depth 40 fits 9999) tt

      numerators : ¬ ((c.p0 ≡ d.p0) × (c.p1 ≡ d.p1)) → AtMost 1 (λ mu. reduce c mu ≡ reduce d mu)
      numerators ne =
          at_most_sub 1 _ _ (λ mu h. ap (λ v. v.p) h)
          (few_lines F D c.p0 (c.p1 - c.p0) d.p0 (d.p1 - d.p0) (λ e. ne (e.0, both c.p0 c.p1 d.p0 d.p1 e)))

      denominators : ¬ ((c.q0 ≡ d.q0) × (c.q1 ≡ d.q1)) → AtMost 1 (λ mu. reduce c mu ≡ reduce d mu)
      denominators ne =
          at_most_sub 1 _ _ (λ mu h. ap (λ v. v.q) h)
          (few_lines F D c.q0 (c.q1 - c.q0) d.q0 (d.q1 - d.q0) (λ e. ne (e.0, both c.q0 c.q1 d.q0 d.q1 e)))

      go : Dec (c.p0 ≡ d.p0) → Dec (c.p1 ≡ d.p1) → AtMost 1 (λ mu. reduce c mu ≡ reduce d mu)
      go (yes a) (yes b) = denominators (λ e. n (λ i. record { p0 = a i; q0 = e.0 i; p1 = b i; q1 = e.1 i }))
      go (yes a) (no b) = numerators (λ e. b e.1)
      go (no a) b = numerators (λ e. a e.0)

  -- BAD CHALLENGES ARE FEW
  pub few : (f : ℕ → Frac R) (s : Step R) → AtMost (most s) (bad F f s)
  few f (batching h xi v) = at_most_when 1 (¬ (v ≡ true_claims F f (suc h) xi)) _ (few_batching v (true_claims F f (suc h) xi))
  few f (subround h k xi lambda rhos claim s) =
      at_most_when 3 (¬ (claim ≡ true_sum F f h (suc k) xi lambda rhos)) _
      (λ n. few_messages k lambda (bound F (Table.weight K xi) rhos) (bound_claims F (Tree.children K (Tree.tree K f h)) rhos) claim s (λ e. n e.0))
  few f (joining h xi c) = at_most_when 1 (¬ (c ≡ true_children F f h xi)) _ (few_joining c (true_children F f h xi))

  -- at most three, at every step
  pub few_three : (f : ℕ → Frac R) (s : Step R) → AtMost 3 (bad F f s)
  few_three f (batching h xi v) xs d a = le_trans (few f (batching h xi v) xs d a) (omega arith)
  few_three f (subround h k xi lambda rhos claim s) xs d a = few f (subround h k xi lambda rhos claim s) xs d a
  few_three f (joining h xi c) xs d a = le_trans (few f (joining h xi c) xs d a) (omega arith)
