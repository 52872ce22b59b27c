-- Where equality of elements is decided, so is that of fractions, claims and messages.
-- Assumes nothing.
use Rattle.std.specs.Prelude.{◌≡◌}
use Rattle.std.proofs.Common.{ap}
use Rattle.ring.specs.Ring.{CommRing}
use Rattle.multilinear.specs.RoundSum.{Claims}
use Rattle.gkr.specs.Run.{Frac, Cubic}
use Rattle.domain.specs.Field.{Domain}

module _ (K : CommRing) (D : Domain K) where
  open K use {carrier as R}

  unfoldable pub decide_frac : (v w : Frac R) → Dec (v ≡ w)
  decide_frac v w = go (D.decide v.p w.p) (D.decide v.q w.q)
    where
      go : Dec (v.p ≡ w.p) → Dec (v.q ≡ w.q) → Dec (v ≡ w)
      go (yes a) (yes b) = yes (λ i. record { p = a i; q = b i })
      go (yes a) (no b) = no (λ e. b (ap (λ x. x.q) e))
      go (no a) b = no (λ e. a (ap (λ x. x.p) e))

  pub decide_claims : (c d : Claims R) → Dec (c ≡ d)
  decide_claims c d = go (decide_frac (left c) (left d)) (decide_frac (right c) (right d))
    where
      left : Claims R → Frac R
      left c = record { p = c.p0; q = c.q0 }

      right : Claims R → Frac R
      right c = record { p = c.p1; q = c.q1 }

      go : Dec (left c ≡ left d) → Dec (right c ≡ right d) → Dec (c ≡ d)
      go (yes a) (yes b) = yes (λ i. record { p0 = (a i).p; q0 = (a i).q; p1 = (b i).p; q1 = (b i).q })
      go (yes a) (no b) = no (λ e. b (ap right e))
      go (no a) b = no (λ e. a (ap left e))

  -- a claim and a message
  pub decide_message : (a b : R) (m n : Cubic R) → Dec ((a ≡ b) × (m ≡ n))
  decide_message a b m n = go (D.decide a b) (D.decide m.at1 n.at1) (D.decide m.at2 n.at2) (D.decide m.at3 n.at3)
    where
      go : Dec (a ≡ b) → Dec (m.at1 ≡ n.at1) → Dec (m.at2 ≡ n.at2) → Dec (m.at3 ≡ n.at3) → Dec ((a ≡ b) × (m ≡ n))
      go (yes p) (yes q) (yes r) (yes s) = yes (p, λ i. record { at1 = q i; at2 = r i; at3 = s i })
      go (yes p) (yes q) (yes r) (no s) = no (λ h. s (ap (λ x. x.at3) h.1))
      go (yes p) (yes q) (no r) s = no (λ h. r (ap (λ x. x.at2) h.1))
      go (yes p) (no q) r s = no (λ h. q (ap (λ x. x.at1) h.1))
      go (no p) q r s = no (λ h. p h.0)

-- not A, and B
pub decide_false_and : {A B : Type 0} → Dec A → Dec B → Dec ((¬ A) × B)
decide_false_and (yes a) b = no (λ h. h.0 a)
decide_false_and (no a) (yes b) = yes (a, b)
decide_false_and (no a) (no b) = no (λ h. b h.1)

pub decide_both : {A B : Type 0} → Dec A → Dec B → Dec (A × B)
decide_both (yes a) (yes b) = yes (a, b)
decide_both (yes a) (no b) = no (λ h. b h.1)
decide_both (no a) b = no (λ h. a h.0)
