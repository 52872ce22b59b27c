-- Soundness over the extension field: what an accepted proof says, in any mode and where q0 is not zero; bad challenges are few; every accepted proof is the honest one.
-- Assumes nothing.
use Rattle.std.specs.Prelude.{ℕ, suc, ◌^◌, ◌≡◌, ◌⊎◌}
use Rattle.field.specs.Ext.{Ext, nil}
use Rattle.field.specs.ExtRing.{ExtRing, same_true}
use Rattle.field.specs.Extension.{Extension}
use Rattle.gkr.specs.Run.{Transcript, Frac, Proof}
use Rattle.gkr.specs.Gkr
use Rattle.domain.proofs.Extension.{ext_domain}
use Rattle.domain.specs.Rows.{ZeroRow}
use Rattle.soundness.specs.Few.{AtMost, Some}
use Rattle.soundness.specs.FewLaws.{onto}
use Rattle.soundness.specs.Fractions.{SumsToZero}
use Rattle.soundness.specs.Steps.{Step, most, bad}
use Rattle.soundness.proofs.StepLaws.{few, few_three}
use Rattle.soundness.specs.Challenges.{challenges, Accepts, Unlucky, RootIs}
use Rattle.soundness.proofs.Sound.{sound}
use Rattle.soundness.specs.Slips.{slipped}
use Rattle.soundness.proofs.Unique as Unique
use Rattle.soundness.specs.Extension.{live_rows}

-- at most 1, 3 or 1 challenges are bad at a step
pub few_bad : (f : ℕ → Frac Ext) (s : Step Ext) → AtMost (most s) (bad Extension f s)
few_bad = few Extension ext_domain

pub three_bad : (f : ℕ → Frac Ext) (s : Step Ext) → AtMost 3 (bad Extension f s)
three_bad = few_three Extension ext_domain

-- WHAT AN ACCEPTED PROOF SAYS, over any transcript
module _ (S : Transcript Ext) (f : ℕ → Frac Ext) (m : ℕ) (π : Proof Ext) (t : S.Log) where
  -- the root of the rows is (0, q0), or a challenge was bad
  pub accepted_sound : Accepts Extension S f (Gkr.verify_gkr Extension S (suc m) π t) → RootIs Extension f (suc m) π.q0 ⊎ Unlucky Extension S f π t
  accepted_sound = sound Extension S ext_domain same_true f m π t

  -- and where q0 is not zero: no row is over zero, and the fractions add up to zero
  pub accepted_live : Accepts Extension S f (Gkr.verify_gkr Extension S (suc m) π t) → ¬ (π.q0 ≡ nil)
      → ((¬ ZeroRow ExtRing f (2 ^ suc m)) × SumsToZero ExtRing f (2 ^ suc m)) ⊎ Unlucky Extension S f π t
  accepted_live a h = onto (accepted_sound a) (live_rows f (suc m) π.q0 h)

  -- the proof is the honest prover's, or a challenge let something slip
  pub accepted_unique : Accepts Extension S f (Gkr.verify_gkr Extension S (suc m) π t)
      → let P = Gkr.run Extension S m f t in ((P.sum.p ≡ nil) × (π ≡ P.proof)) ⊎ Some (slipped Extension f) (challenges Extension S π t)
  accepted_unique = Unique.unique Extension S ext_domain same_true f m π t
