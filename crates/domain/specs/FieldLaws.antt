-- A field has no zero divisors.
-- Assumes nothing.
use Rattle.std.specs.Prelude.{◌≡◌, [], ◌∷◌, ◌⊎◌}
use Rattle.std.proofs.Common.{inl, inr}
use Rattle.ring.specs.Ring.{CommRing}
use Rattle.ring.proofs.Quote.{ring_by, quote, ◌▷◌}
use Rattle.domain.specs.Field.{IsField, Domain}

module _ (R : CommRing) (f : IsField R) where
  infixl 70 ◌*◌
  open R use {carrier as A, mul as ◌*◌, neg, nil, one}

  cancel : (a b c : A) → a * c ≡ one → a * b ≡ nil → b ≡ nil
  cancel a b c h e = ring_by R (a ∷ b ∷ c ∷ []) (neg b ▷ h ∷ c ▷ e ∷ []) (search quote) tt

  no_zero : (a b : A) → a * b ≡ nil → (a ≡ nil) ⊎ (b ≡ nil)
  no_zero a b e = go (f.decide a nil)
    where
      go : Dec (a ≡ nil) → (a ≡ nil) ⊎ (b ≡ nil)
      go (yes h) = inl h
      go (no n) = let c = f.inverse a n in inr (cancel a b c.0 c.1 e)

  pub domain : Domain R
  domain = record { decide = f.decide; no_zero = no_zero }
