-- Over the extension field: rows whose root is (0, q0), with q0 not zero.
-- Assumes nothing.
use Rattle.std.specs.Prelude.{ℕ, ◌<◌, ◌^◌, ◌≡◌}
use Rattle.std.proofs.Common.{sym, ◌∙◌}
use Rattle.field.specs.Ext.{Ext, nil}
use Rattle.field.specs.ExtRing.{ExtRing}
use Rattle.field.specs.Extension.{Extension}
use Rattle.gkr.specs.Run.{Frac}
use Rattle.gkr.specs.Tree
use Rattle.domain.proofs.Extension.{ext_field, ext_domain, one_not_nil}
use Rattle.domain.specs.Rows.{ZeroRow}
use Rattle.domain.proofs.Tree.{zero_root}
use Rattle.soundness.specs.Fractions.{Inverts, SumsToZero}
use Rattle.soundness.specs.FractionLaws.{zero_sum}
use Rattle.soundness.specs.Challenges.{RootIs}

-- ROWS WHOSE ROOT IS (0, q0) with q0 not zero: no row is over zero, and the fractions add up to zero

module _ (f : ℕ → Frac Ext) (n : ℕ) (sound_rows : ¬ ZeroRow ExtRing f (2 ^ n)) where
  inverse : (a : Ext) → Dec (a ≡ nil) → Ext
  inverse a (yes e) = nil
  inverse a (no h) = (ext_field.inverse a h).0

  inverts : (i : ℕ) → i < 2 ^ n → (d : Dec ((f i).q ≡ nil)) → ExtRing.mul (f i).q (inverse (f i).q d) ≡ ExtRing.one
  unfolding inverse
  inverts i l (yes e) = absurd (sound_rows (i, l, e))
  inverts i l (no h) = (ext_field.inverse (f i).q h).1

  plain_sum : (Tree.tree ExtRing f n 0).p ≡ nil → SumsToZero ExtRing f (2 ^ n)
  plain_sum z =
      let w : ℕ → Ext = λ i. inverse (f i).q (ext_field.decide (f i).q nil) in
      let i : Inverts ExtRing f w (2 ^ n) = λ i l. inverts i l (ext_field.decide (f i).q nil) in
      record { inverse = w; inverts = i; sum = (zero_sum ExtRing ext_domain f w n one_not_nil i).0 z }

pub live_rows : (f : ℕ → Frac Ext) (n : ℕ) (q0 : Ext) → ¬ (q0 ≡ nil) → RootIs Extension f n q0 → (¬ ZeroRow ExtRing f (2 ^ n)) × SumsToZero ExtRing f (2 ^ n)
live_rows f n q0 h r =
    let rows : ¬ ZeroRow ExtRing f (2 ^ n) = λ z. h (sym r.1 ∙ (zero_root f n).1 z) in
    (rows, plain_sum f n rows r.0)
