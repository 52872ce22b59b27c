-- THE SOUNDNESS ERROR: a prover that does not look ahead cheats with at most errors m out of as many challenges as there are, whatever lists it sends.
-- Assumes nothing.
use Rattle.std.specs.Prelude.{ℕ, suc, ◌≤◌, ◌*◌, ◌^◌, ◌≡◌, Bool, true, ◌⊎◌, List, length}
use Rattle.std.proofs.Common.{◌∙◌, subst, inl, inr}
use Rattle.ring.specs.Field.{Field}
use Rattle.gkr.specs.Run.{Frac}
use Rattle.gkr.specs.Tree
use Rattle.gkr.specs.Gkr
use Rattle.gkr.specs.Gkr.{accepted, zero_rounds, layer_count, poly_count, zero_check, root_check, subround_count, layer_check}
use Rattle.gkr.specs.Sizes as Sizes
use Rattle.domain.specs.Field.{Domain}
use Rattle.soundness.specs.Few.{Distinct}
use Rattle.soundness.specs.Decide.{decide_frac, decide_claims, decide_false_and, decide_both}
use Rattle.soundness.specs.Steps.{Step, batching, subround, joining, most, true_claims, true_children, true_sum, bad}
use Rattle.soundness.proofs.StepLaws.{few}
use Rattle.soundness.specs.Challenges.{Accepts, Unlucky, RootIs}
use Rattle.soundness.proofs.Sound.{sound}
use Rattle.soundness.specs.Tally.{tally, test}
use Rattle.soundness.specs.TallyLaws.{tested}
use Rattle.soundness.specs.Errors.{places, errors}
use Rattle.soundness.specs.ErrorLaws.{places_length}
use Rattle.soundness.specs.Provers.{along, coins, Prover, Adaptive, Cheats}
use Rattle.soundness.proofs.Shape.{accepted_places}
use Rattle.soundness.proofs.Union

module _ (F : Field) (D : Domain F.ring) where
  open F use {ring as K, same}
  open F.ring use {carrier as R}

  -- WHAT IS DECIDED

  decide_bad : (f : ℕ → Frac R) (s : Step R) (x : R) → Dec (bad F f s x)
  decide_bad f (batching h xi v) x = decide_false_and (decide_frac K D v (true_claims F f (suc h) xi)) (D.decide _ _)
  decide_bad f (subround h k xi lambda rhos claim s) x = decide_false_and (D.decide claim (true_sum F f h (suc k) xi lambda rhos)) (D.decide _ _)
  decide_bad f (joining h xi c) x = decide_false_and (decide_claims K D c (true_children F f h xi)) (decide_frac K D _ _)

  unfoldable decide_accepts : (f : ℕ → Frac R) (w : Gkr.Verdict F (coins F)) → Dec (Accepts F (coins F) f w)
  decide_accepts f (accepted v xi t) = decide_frac K D v (Tree.value K f xi)
  decide_accepts f zero_rounds = no (λ x. x)
  decide_accepts f (layer_count expected actual) = no (λ x. x)
  decide_accepts f (poly_count expected actual) = no (λ x. x)
  decide_accepts f (zero_check actual t) = no (λ x. x)
  decide_accepts f (root_check expected actual t) = no (λ x. x)
  decide_accepts f (subround_count round expected actual t) = no (λ x. x)
  decide_accepts f (layer_check round expected actual t) = no (λ x. x)

  unfoldable pub decide_cheats : (f : ℕ → Frac R) (m : ℕ) (σ : Prover F) (cs : List R) → Dec (Cheats F f m σ cs)
  unfolding decide_accepts
  decide_cheats f m σ cs =
      let root = Tree.tree K f (suc m) 0 in
      turned (decide_false_and (decide_both (D.decide root.p K.nil) (D.decide root.q (σ cs).q0)) (decide_accepts f (Gkr.verify_gkr F (coins F) (suc m) (σ cs) cs)))
    where
      turned : {A B : Type 0} → Dec (A × B) → Dec (B × A)
      turned (yes h) = yes (h.1, h.0)
      turned (no n) = no (λ h. n (h.1, h.0))

  -- THE THEOREM

  module _ (exact : (x y : R) → same x y ≡ true → x ≡ y) where
    -- a test that only those challenges pass with which the prover cheats
    pub soundness_of : (f : ℕ → Frac R) (m : ℕ) (σ : Prover F) → Adaptive F f m σ
        → (p : List R → Bool) → ((cs : List R) → p cs ≡ true → Cheats F f m σ cs)
        → (X : List R) → Distinct X → let n = Sizes.challenges (suc m) in tally X n p * length X ≤ errors m * length X ^ n
    soundness_of f m σ a p h X d =
        subst (λ n. tally X n p * length X ≤ errors m * length X ^ n) (places_length m)
        (Union.bound most (bad F f) (few F D f) (decide_bad f) (places m) a.table p (λ cs l t. caught cs (l ∙ places_length m) (h cs t)) X d)
      where
        unlucky : (cs : List R) → ¬ RootIs F f (suc m) (σ cs).q0 → RootIs F f (suc m) (σ cs).q0 ⊎ Unlucky F (coins F) f (σ cs) cs → Unlucky F (coins F) f (σ cs) cs
        unlucky cs n (inl r) = absurd (n r)
        unlucky cs n (inr u) = u

        caught : (cs : List R) → length cs ≡ Sizes.challenges (suc m) → Cheats F f m σ cs → Union.HitsAt most (bad F f) (few F D f) (decide_bad f) (places m) (along a.table cs)
        caught cs l c =
            subst (Union.HitsAt most (bad F f) (few F D f) (decide_bad f) (places m)) (a.follows cs l c.0)
            (accepted_places F (coins F) f m (σ cs) cs c.0, unlucky cs c.1 (sound F (coins F) D exact f m (σ cs) cs c.0))

    -- of all sequences of challenges out of X, the prover cheats with at most errors m out of length X
    pub soundness : (f : ℕ → Frac R) (m : ℕ) (σ : Prover F) → Adaptive F f m σ
        → (X : List R) → Distinct X → let n = Sizes.challenges (suc m) in tally X n (λ cs. test (decide_cheats f m σ cs)) * length X ≤ errors m * length X ^ n
    soundness f m σ a = soundness_of f m σ a (λ cs. test (decide_cheats f m σ cs)) (λ cs. tested (decide_cheats f m σ cs))
