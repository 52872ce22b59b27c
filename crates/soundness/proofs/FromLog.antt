-- DRAWN FROM THE LOG: what is on the table before a challenge can be read off the log that the challenge is drawn from. So a bad challenge is a value of the source
-- at a log which itself, before the value is known, fixes the at most 1, 3 or 1 values that are bad.
-- Assumes nothing.
use Prim.Native.Nat.{ℕ, zero, suc}
use Rattle.std.specs.Prelude.{◌≡◌, Bool, true, false, cond, ◌⊎◌, eqb}
use Rattle.std.proofs.Math.Path.{refl, sym}
use Rattle.std.proofs.Common.{◌∙◌, ap, subst, inl, inr, suc-ne-zero}
use mathlib.Core.List.{List, [], ◌∷◌, ◌++◌, append-nil, append_assoc}
use Rattle.std.proofs.Math.Nat.{suc_inj}
use Rattle.std.proofs.Math.ListN.{length}
use borrow.Author.Tests.{eqb-true}
use Rattle.ring.specs.Field.{Field}
use Rattle.multilinear.specs.Forms
use Rattle.multilinear.specs.RoundSum
use Rattle.multilinear.specs.RoundSum.{Claims}
use Rattle.gkr.specs.Run.{Transcript, Frac, Cubic, Proof}
use Rattle.gkr.specs.Tree
use Rattle.gkr.specs.Sumcheck
use Rattle.gkr.specs.Gkr
use Rattle.gkr.specs.Gkr.{accepted, zero_rounds, layer_count, poly_count, zero_check, root_check, subround_count, layer_check}
use Rattle.domain.specs.Field.{Domain}
use Rattle.soundness.specs.Few.{All, Some}
use Rattle.soundness.specs.FewLaws.{all_append}
use Rattle.soundness.specs.Steps.{Step, batching, subround, joining, Drawn, batched, next_claim, bad}
use Rattle.soundness.specs.Challenges.{subround_challenges, layer_challenges, root_challenges, challenges, Accepts, hit, RootIs}
use Rattle.soundness.proofs.Sound.{sound}
use Rattle.soundness.proofs.Shape.{sub_point}
use Rattle.soundness.specs.Kept.{Keeps}

module _ (F : Field) where
  open F use {ring as K, same}
  open F.ring use {carrier as R, mul as ◌*◌, nil, one}

  infixl 70 ◌*◌
  abbrev reduce : Claims R → R → Frac R
  reduce = Tree.reduce_to_single_evaluation K

  -- READING what is on the table off the elements of a log; a log that is none of a run's reads as anything

  nothing : Step R
  nothing = batching 0 [] (record { p = nil; q = nil })

  -- before an element, and after it
  then : (s : Step R) (go : R → List R → Step R) → List R → Step R
  then s go [] = s
  then s go (x ∷ es) = go x es

  cubic_then : (go : Cubic R → List R → Step R) → List R → Step R
  unfolding then
  cubic_then go = then nothing (λ a. then nothing (λ b. then nothing (λ c. go (record { at1 = a; at2 = b; at3 = c }))))

  claims_then : (go : Claims R → List R → Step R) → List R → Step R
  unfolding then
  claims_then go = then nothing (λ a. then nothing (λ b. then nothing (λ c. then nothing (λ d. go (record { p0 = a; q0 = b; p1 = c; q1 = d })))))

  sub_read : (h k : ℕ) (xi : List R) (lambda : R) (rhos : List R) (claim : R) (go : List R → List R → Step R) → List R → Step R
  unfolding cubic_then then
  sub_read h zero xi lambda rhos claim go = go []
  sub_read h (suc k) xi lambda rhos claim go =
      cubic_then (λ s. then (subround h k xi lambda rhos claim s) (λ rho. sub_read h k xi lambda (rho ∷ rhos) (next_claim F claim s rho) (λ point. go (rho ∷ point))))

  layers_read : (h r : ℕ) (v : Frac R) (xi : List R) → List R → Step R
  unfolding sub_read claims_then then
  layers_read zero r v xi = λ es. nothing
  layers_read (suc h) r v xi =
      then (batching h xi v) (λ lambda. sub_read h r xi lambda [] (batched F v lambda)
      (λ point. claims_then (λ c. then (joining h point c) (λ mu. layers_read h (suc r) (reduce c mu) (mu ∷ point)))))

  -- q0, the claims of layer 0, mu, and the layers
  pub table : (m : ℕ) (es : List R) → Step R
  unfolding layers_read claims_then then
  table m = then nothing (λ q0. claims_then (λ c. then (joining m [] c) (λ mu. layers_read m 1 (reduce c mu) (mu ∷ []))))

  -- EVERY STEP OF A RUN IS READ OFF ITS LOG

  -- where `top` is how a whole log is read, and `end` the log that is left
  module _ (S : Transcript R) (kept : Keeps S) (top : List R → Step R) (end : S.Log) where
    open S use {Log, observe, draw, drawn}

    -- the log of a verdict goes on to the end
    abbrev Leaves : Gkr.Verdict F S → Type 0
    Leaves (accepted v xi t) = kept.Past t end
    Leaves zero_rounds = Unit {0}
    Leaves (layer_count expected actual) = Unit {0}
    Leaves (poly_count expected actual) = Unit {0}
    Leaves (zero_check actual t) = Unit {0}
    Leaves (root_check expected actual t) = Unit {0}
    Leaves (subround_count round expected actual t) = Unit {0}
    Leaves (layer_check round expected actual t) = Unit {0}

    abbrev Ends : (ℕ → Frac R) → Gkr.Verdict F S → Type 0
    Ends f w = Accepts F S f w × Leaves w

    -- a test that stood in the way was passed
    through : (f : ℕ → Frac R) (b : Bool) (x y : Gkr.Verdict F S) → ¬ Accepts F S f y → Ends f (cond b x y) → (b ≡ true) × Ends f x
    through f true x y n h = (refl, h)
    through f false x y n h = absurd (n h.0)

    -- from the log t on, the reading goes on as `go` says
    record At (t : Log) (go : List R → Step R) : Type 0 where
      whole : kept.Whole t
      reads : (es : List R) → top (kept.read t ++ es) ≡ go es

    observed : (x : R) (t : Log) (go : List R → Step R) → At t go → At (observe x t) (λ es. go (x ∷ es))
    observed x t go h =
        let k = kept.observes x t h.whole in
        record { whole = k.0; reads = λ es. ap (λ l. top (l ++ es)) k.1 ∙ ap top (append_assoc (kept.read t) (x ∷ []) es) ∙ h.reads (x ∷ es) }

    sampled : (t : Log) (go : List R → Step R) → At t go → At (drawn t) (λ es. go (draw t ∷ es))
    sampled t go h =
        let k = kept.draws t h.whole in
        record { whole = k.0; reads = λ es. ap (λ l. top (l ++ es)) k.1 ∙ ap top (append_assoc (kept.read t) (draw t ∷ []) es) ∙ h.reads (draw t ∷ es) }

    -- a challenge drawn from a log u of the run, at the step that u itself fixes
    abbrev Logged : Drawn (Step R) R → Type 0
    Logged d = (u : Log) × kept.Past (drawn u) end × (d ≡ record { step = top (kept.read u); challenge = draw u })

    logged : (s : Step R) (t : Log) (go : List R → Step R) → At t go → go [] ≡ s → kept.Past (drawn t) end → Logged (record { step = s; challenge = draw t })
    logged s t go h e p = (t, p, λ i. record { step = (sym (ap top (sym (append-nil (kept.read t))) ∙ h.reads [] ∙ e)) i; challenge = draw t })

    -- all of them, and the log that they begin at goes on to the end
    abbrev AllLogged : List (Drawn (Step R) R) → Log → Type 0
    AllLogged ds t = All Logged ds × kept.Past t end

    before_cubic : (s : Cubic R) (t : Log) → kept.Past (Sumcheck.observe_cubic F S s t) end → kept.Past t end
    before_cubic s t p = kept.before_observing _ _ _ (kept.before_observing _ _ _ (kept.before_observing _ _ _ p))

    before_claims : (c : Claims R) (t : Log) → kept.Past (Gkr.observe_layer_claims F S c t) end → kept.Past t end
    before_claims c t p = kept.before_observing _ _ _ (kept.before_observing _ _ _ (kept.before_observing _ _ _ (kept.before_observing _ _ _ p)))

    cubic_observed : (s : Cubic R) (t : Log) (go : Cubic R → List R → Step R) → At t (cubic_then go) → At (Sumcheck.observe_cubic F S s t) (go s)
    unfolding cubic_then
    cubic_observed s t go h = observed s.at3 _ _ (observed s.at2 _ _ (observed s.at1 t (cubic_then go) h))

    claims_observed : (c : Claims R) (t : Log) (go : Claims R → List R → Step R) → At t (claims_then go) → At (Gkr.observe_layer_claims F S c t) (go c)
    unfolding claims_then
    claims_observed c t go h = observed c.q1 _ _ (observed c.p1 _ _ (observed c.q0 _ _ (observed c.p0 t (claims_then go) h)))

    sub_logged : (h : ℕ) (xi : List R) (lambda : R) (rhos : List R) (polys : List (Cubic R)) (left : List R) (claim a : R) (t : Log) (go : List R → List R → Step R) → length polys ≡ length left
        → At t (sub_read h (length left) xi lambda rhos claim go)
        → let C = Sumcheck.verify_gkr_sumcheck F S polys left claim a t in At C.log (go C.point) × (kept.Past C.log end → AllLogged (subround_challenges F S h xi lambda rhos polys left claim t) t)
    unfolding Sumcheck.verify_gkr_sumcheck subround_challenges sub_read then
    sub_logged h xi lambda rhos [] [] claim a t go n at = (at, λ p. (tt, p))
    sub_logged h xi lambda rhos [] (x ∷ left) claim a t go n at = absurd (suc-ne-zero _ (sym n))
    sub_logged h xi lambda rhos (s ∷ polys) [] claim a t go n at = absurd (suc-ne-zero _ n)
    sub_logged h xi lambda rhos (s ∷ polys) (x ∷ left) claim a t go n at =
        let k = length left in
        let t₁ = Sumcheck.observe_cubic F S s t in
        let rho = draw t₁ in
        let on : Cubic R → List R → Step R = λ s. then (subround h k xi lambda rhos claim s) (λ rho. sub_read h k xi lambda (rho ∷ rhos) (next_claim F claim s rho) (λ point. go (rho ∷ point))) in
        let here = cubic_observed s t on at in
        let rest = sub_logged h xi lambda (rho ∷ rhos) polys left (next_claim F claim s rho) (a * Forms.agree K x rho) (drawn t₁) (λ point. go (rho ∷ point)) (suc_inj n) (sampled t₁ (on s) here) in
        (rest.0, λ p. let q = rest.1 p in ((logged (subround h k xi lambda rhos claim s) t₁ (on s) here refl q.1, q.0), before_cubic s t (kept.before_drawing t₁ end q.1)))

    layers_logged : (f : ℕ → Frac R) (polyss : List (List (Cubic R))) (cs : List (Claims R)) (v : Frac R) (xi : List R) (t : Log) → length polyss ≡ length cs
        → Ends f (Gkr.rounds F S polyss cs v xi t) → At t (layers_read (length polyss) (length xi) v xi) → AllLogged (layer_challenges F S polyss cs v xi t) t
    unfolding Gkr.rounds layer_challenges layers_read then
    layers_logged f [] [] v xi t n g at = (tt, g.1)
    layers_logged f [] (c ∷ cs) v xi t n g at = absurd (suc-ne-zero _ (sym n))
    layers_logged f (polys ∷ polyss) [] v xi t n g at = absurd (suc-ne-zero _ n)
    layers_logged f (polys ∷ polyss) (c ∷ cs) v xi t n g at =
        let h = length polyss in
        let r = length xi in
        let lambda = draw t in
        let claim = batched F v lambda in
        let C = Sumcheck.verify_gkr_sumcheck F S polys xi claim one (drawn t) in
        let t₂ = Gkr.observe_layer_claims F S c C.log in
        let mu = draw t₂ in
        let counts = through f (eqb (length polys) r) _ _ (λ x. x) g in
        let holds = through f (same (RoundSum.cross K lambda c * C.eq) C.claim) _ _ (λ x. x) counts.1 in
        let k = eqb-true _ _ counts.0 in
        let on : List R → Claims R → List R → Step R = λ point c. then (joining h point c) (λ mu. layers_read h (suc r) (reduce c mu) (mu ∷ point)) in
        let sub = sub_logged h xi lambda [] polys xi claim one (drawn t) (λ point. claims_then (on point)) k (sampled t _ at) in
        let here = claims_observed c C.log (on C.point) sub.0 in
        let p : r ≡ length C.point = sym (sub_point F S polys xi claim one (drawn t) k) in
        let rest = layers_logged f polyss cs (reduce c mu) (mu ∷ C.point) (drawn t₂) (suc_inj n) holds.1
        (subst (λ j. At (drawn t₂) (layers_read h (suc j) (reduce c mu) (mu ∷ C.point))) p (sampled t₂ (on C.point c) here)) in
        let subs = sub.1 (before_claims c C.log (kept.before_drawing t₂ end rest.1)) in
        let last = logged (joining h C.point c) t₂ (on C.point c) here refl rest.1 in
        let subrounds = subround_challenges F S h xi lambda [] polys xi claim (drawn t) in
        ((logged (batching h xi v) t _ at refl subs.1, all_append Logged subrounds _ subs.0 (last, rest.0)), kept.before_drawing t end subs.1)

    root_logged : (f : ℕ → Frac R) (m : ℕ) (q0 : R) (cs : List (Claims R)) (polyss : List (List (Cubic R))) (t : Log) → Ends f (Gkr.counted F S m q0 cs polyss t)
        → At t (table m) → All Logged (root_challenges F S q0 cs polyss t)
    unfolding Gkr.counted Gkr.root root_challenges table then
    root_logged f m q0 [] polyss t g at = tt
    root_logged f m q0 (c ∷ cs) polyss t g at =
        let claims = through f (eqb (length cs) m) _ _ (λ x. x) g in
        let polys = through f (eqb (length polyss) m) _ _ (λ x. x) claims.1 in
        let zero = through f (same (Tree.compute_recursive_relations K c).p nil) _ _ (λ x. x) polys.1 in
        let denominator = through f (same (Tree.compute_recursive_relations K c).q q0) _ _ (λ x. x) zero.1 in
        let k = eqb-true _ _ polys.0 in
        let on : Claims R → List R → Step R = λ c. then (joining m [] c) (λ mu. layers_read m 1 (reduce c mu) (mu ∷ [])) in
        let t₁ = Gkr.observe_layer_claims F S c (observe q0 t) in
        let here = claims_observed c (observe q0 t) on (observed q0 t (table m) at) in
        let rest = layers_logged f polyss cs (reduce c (draw t₁)) (draw t₁ ∷ []) (drawn t₁) (k ∙ sym (eqb-true _ _ claims.0)) denominator.1
        (subst (λ j. At (drawn t₁) (layers_read j 1 (reduce c (draw t₁)) (draw t₁ ∷ []))) (sym k) (sampled t₁ (on c) here)) in
        (subst (λ j. Logged (record { step = joining j [] c; challenge = draw t₁ })) (sym k) (logged (joining m [] c) t₁ (on c) here refl rest.1), rest.0)

  -- THE THEOREM: accepted with claims that are true of the rows f, the root is (0, q0), or at some log u of the run the source gave a value that is bad at the step which u fixes
  module _ (D : Domain F.ring) (exact : (x y : R) → same x y ≡ true → x ≡ y) (S : Transcript R) (kept : Keeps S) where
    -- a bad value at a log of a run that left the log `end`
    abbrev pub BadAt : (f : ℕ → Frac R) (m : ℕ) (end : S.Log) → Type 0
    BadAt f m end = (u : S.Log) × kept.Past (S.drawn u) end × bad F f (table m (kept.read u)) (S.draw u)

    leaves : (t : S.Log) (w : Gkr.Verdict F S) → Leaves S kept (table 0) (Gkr.log_after F S t w) w
    leaves t (accepted v xi u) = kept.itself u
    leaves t zero_rounds = tt
    leaves t (layer_count expected actual) = tt
    leaves t (poly_count expected actual) = tt
    leaves t (zero_check actual u) = tt
    leaves t (root_check expected actual u) = tt
    leaves t (subround_count round expected actual u) = tt
    leaves t (layer_check round expected actual u) = tt

    found : (f : ℕ → Frac R) (m : ℕ) (end : S.Log) (ds : List (Drawn (Step R) R)) → All (Logged S kept (table m) end) ds → Some (hit F S f) ds → BadAt f m end
    found f m end [] a s = absurd s
    found f m end (d ∷ ds) a (inl b) = (a.0.0, a.0.1, subst (λ d. bad F f d.step d.challenge) a.0.2 b)
    found f m end (d ∷ ds) a (inr s) = found f m end ds a.1 s

    pub drawn_sound : (f : ℕ → Frac R) (m : ℕ) (π : Proof R) (t : S.Log) → kept.Whole t → kept.read t ≡ []
        → let w = Gkr.verify_gkr F S (suc m) π t in Accepts F S f w → RootIs F f (suc m) π.q0 ⊎ BadAt f m (Gkr.log_after F S t w)
    unfolding Gkr.verify_gkr
    drawn_sound f m π t w e g = go (sound F S D exact f m π t g)
      where
        end : S.Log
        end = Gkr.log_after F S t (Gkr.verify_gkr F S (suc m) π t)

        all : All (Logged S kept (table m) end) (challenges F S π t)
        all = root_logged S kept (table m) end f m π.q0 π.claims π.polys t (g, leaves t (Gkr.verify_gkr F S (suc m) π t)) (record { whole = w; reads = λ es. ap (λ l. table m (l ++ es)) e })

        go : RootIs F f (suc m) π.q0 ⊎ Some (hit F S f) (challenges F S π t) → RootIs F f (suc m) π.q0 ⊎ BadAt f m end
        go (inl r) = inl r
        go (inr s) = inr (found f m end (challenges F S π t) all s)
