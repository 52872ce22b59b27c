-- The soundness error over the extension field: of all sequences of challenges a prover that does not look ahead cheats with at most errors m out of P ^ 4.
-- Assumes nothing.
use Rattle.std.specs.Prelude.{ℕ, suc, ◌*◌, ◌^◌, ◌≤◌, ◌≡◌, Bool, true, List}
use Rattle.std.proofs.Common.{subst}
use Rattle.field.specs.Ext.{Ext, nil}
use Rattle.field.specs.ExtRing.{ExtRing, same_true}
use Rattle.field.specs.Extension.{Extension}
use Rattle.field.specs.Element.{words}
use Rattle.gkr.specs.Run.{Frac}
use Rattle.gkr.specs.Gkr
use Rattle.gkr.specs.Sizes.{challenges}
use Rattle.gkr.specs.Transcripts.{empty}
use Rattle.domain.proofs.Extension.{ext_domain}
use Rattle.domain.specs.Rows.{ZeroRow}
use Rattle.soundness.specs.Challenges.{Accepts, RootIs}
use Rattle.soundness.specs.Tally.{tally, test}
use Rattle.soundness.specs.Errors.{errors}
use Rattle.soundness.specs.Provers.{Prover, Convinces, Adaptive}
use Rattle.soundness.proofs.Counted.{decide_cheats, soundness_of, soundness}
use Rattle.soundness.specs.Fractions.{SumsToZero}
use Rattle.soundness.specs.Extension.{live_rows}
use Rattle.soundness.specs.Strategies.{Strategy, proof}
use Rattle.soundness.proofs.Interactive.{interactive}
use Rattle.soundness.proofs.Supplied.{given, supplied_soundness}
use Rattle.soundness.specs.Whole.{everything, everything_distinct, everything_length}
use Rattle.soundness.specs.Uniform.{Bounded}

-- whether the prover cheats with these challenges
abbrev pub cheats : (f : ℕ → Frac Ext) (m : ℕ) (σ : Prover Extension) (cs : List Ext) → Bool
cheats f m σ cs = test (decide_cheats Extension ext_domain f m σ cs)

-- for every prover that does not look ahead
pub uniform_error : (f : ℕ → Frac Ext) (m : ℕ) (σ : Prover Extension) → Adaptive Extension f m σ → Bounded m (cheats f m σ)
uniform_error f m σ a =
    subst (λ k. tally everything (challenges (suc m)) (cheats f m σ) * k ≤ errors m * k ^ challenges (suc m)) everything_length
    (soundness Extension ext_domain same_true f m σ a everything everything_distinct)

-- so for every interactive prover
pub interactive_error : (f : ℕ → Frac Ext) (m : ℕ) (σ : Strategy Extension m) → Bounded m (cheats f m (proof Extension m σ))
interactive_error f m σ = uniform_error f m (proof Extension m σ) (interactive Extension f m σ)

-- LIVE: rows of which one is over zero, or whose fractions do not add up to zero, with any q0 but zero
pub live_error : (f : ℕ → Frac Ext) (m : ℕ) (σ : Prover Extension) → Adaptive Extension f m σ → ¬ ((¬ ZeroRow ExtRing f (2 ^ suc m)) × SumsToZero ExtRing f (2 ^ suc m))
    → (p : List Ext → Bool) → ((cs : List Ext) → p cs ≡ true → Convinces Extension f m σ cs × ¬ ((σ cs).q0 ≡ nil)) → Bounded m p
live_error f m σ a wrong p h =
    subst (λ k. tally everything (challenges (suc m)) p * k ≤ errors m * k ^ challenges (suc m)) everything_length
    (soundness_of Extension ext_domain same_true f m σ a p (λ cs e. ((h cs e).0, λ r. wrong (live_rows f (suc m) (σ cs).q0 (h cs e).1 r))) everything everything_distinct)

-- and against the verifier that keeps a log of words, with the challenges supplied in order
pub supplied_error : (f : ℕ → Frac Ext) (m : ℕ) (σ : Prover Extension) → Adaptive Extension f m σ → (p : List Ext → Bool)
    → ((cs : List Ext) → p cs ≡ true → let S = given Extension words cs in Accepts Extension S f (Gkr.verify_gkr Extension S (suc m) (σ cs) empty) × ¬ RootIs Extension f (suc m) (σ cs).q0)
    → Bounded m p
supplied_error f m σ a p h =
    subst (λ k. tally everything (challenges (suc m)) p * k ≤ errors m * k ^ challenges (suc m)) everything_length
    (supplied_soundness Extension words ext_domain same_true f m σ a p h everything everything_distinct)
