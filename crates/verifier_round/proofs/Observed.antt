-- Messages observed one element after the other, and challenges sampled after them.
-- Assumes nothing.
use mathlib.Core.Path.{◌≡◌, refl, ◌∙◌, ap, subst}
use mathlib.Core.List.{List}
use Prim.Native.Nat.{ℕ, ◌+◌}
use Rattle.field.specs.Ext as E
use Rattle.field.specs.ExtRing.{ExtRing}
use Rattle.field.specs.Extension.{Extension}
use Rattle.field.specs.declared.Ext.{Ext}
use Rattle.field.specs.Element.{dec, Is}
use Rattle.field.specs.ElementLaws.{is_eq, one_is}
use Rattle.field.specs.Cells.{cell, Stored}
use Rattle.multilinear.specs.Forms as Forms
use Rattle.multilinear.specs.Interpolate as Interpolate
use Rattle.multilinear.specs.RoundSum.{Claims}
use Rattle.gkr.specs.Run.{Cubic}
use Rattle.gkr.specs.Transcripts.{Words, Source}
use Rattle.gkr.specs.Tree as Tree
use Rattle.gkr.specs.Sumcheck as Sumcheck
use Rattle.gkr.specs.Gkr as Gkr
use Rattle.transcript.specs.Log.{Drawing, Observing, State, Steps, log_of}
use Rattle.transcript.proofs.Logs.{then, retold}
use Rattle.step.specs.declared.Frac.{Frac}
use Rattle.step.specs.Values.{IsFrac, minus}
use Rattle.verifier_round.specs.declared.Claims.{Claims as Claimed}
use Rattle.verifier_round.specs.declared.Sums.{Sums}
use Rattle.verifier_round.specs.Rounds.{told, LayerOpened, SubChecked, Descended}

abbrev obs : E.Ext → Words → Words
obs x t = Observing.observe x t

-- two after one another
pub two_observed : {t t₁ t₂ : State} (x y : E.Ext) (n : ℕ) (w : Words) → Steps t t₁ n 0 w → Steps t₁ t₂ 4 0 (obs y (log_of t₁)) → Steps t t₂ (n + 4) 0 (obs y w)
two_observed x y n w a b = then a (retold refl refl (ap (obs y) a.log) b)

pub three_observed : {t t₁ t₂ t₃ : State} (m : Cubic E.Ext) → Steps t t₁ 4 0 (obs m.at1 (log_of t)) → Steps t₁ t₂ 4 0 (obs m.at2 (log_of t₁))
    → Steps t₂ t₃ 4 0 (obs m.at3 (log_of t₂)) → Steps t t₃ 12 0 (Sumcheck.observe_cubic Extension Observing m (log_of t))
three_observed m a b c = two_observed m.at2 m.at3 8 _ (two_observed m.at1 m.at2 4 _ a b) c

pub claims_observed : {t t₁ t₂ t₃ t₄ : State} (c : Claims E.Ext) → Steps t t₁ 4 0 (obs c.p0 (log_of t)) → Steps t₁ t₂ 4 0 (obs c.q0 (log_of t₁))
    → Steps t₂ t₃ 4 0 (obs c.p1 (log_of t₂)) → Steps t₃ t₄ 4 0 (obs c.q1 (log_of t₃)) → Steps t t₄ 16 0 (Gkr.observe_layer_claims Extension Observing c (log_of t))
claims_observed c a b d e = two_observed c.p1 c.q1 12 _ (two_observed c.q0 c.p1 8 _ (two_observed c.p0 c.q0 4 _ a b) d) e

pub sub_done : {pt pt' : List ℕ} {t t₁ t₂ : State} (ch : Source E.Ext) (j : ℕ) (m : Cubic E.Ext) (s : Sums) {x claim eq xi : Ext} → Steps t t₁ 12 0 (told m t)
    → Steps t₁ t₂ 4 1 ((Drawing ch).drawn (log_of t₁)) × Is x (ch (log_of t₁)) → Stored pt pt' (j + 1) (dec x) → Is xi (cell pt (j + 1))
    → Is claim (Interpolate.cubic Extension (minus (dec s.claim) m.at1) m.at1 m.at2 m.at3 (dec x))
    → Is eq (E.mul (dec s.eq) (Forms.agree ExtRing (dec s.xi) (dec x))) → SubChecked pt pt' t t₂ ch j m s (record { claim = claim; eq = eq; xi = xi })
sub_done {pt} {pt'} {t} {t₁} ch j m s {x = x} a b h y k q =
    let g : log_of t₁ ≡ told m t = a.log in
    let r : dec x ≡ ch (told m t) = b.1.value ∙ ap ch g in
    record {
      steps = retold refl refl (ap (Drawing ch).drawn g) (then a b.0);
      rho = subst (Stored pt pt' (j + 1)) r h;
      claim = is_eq k (ap (Interpolate.cubic Extension (minus (dec s.claim) m.at1) m.at1 m.at2 m.at3) r);
      eq = is_eq q (ap (λ y. E.mul (dec s.eq) (Forms.agree ExtRing (dec s.xi) y)) r);
      xi = y;
    }

pub descended : {pt pt' : List ℕ} {t t' : State} (ch : Source E.Ext) (c : Claims E.Ext) {x : Ext} {f : Frac} → Steps t t' 4 1 ((Drawing ch).drawn (log_of t))
    → Is x (ch (log_of t)) → Stored pt pt' 0 (dec x) → IsFrac f (Tree.reduce_to_single_evaluation ExtRing c (dec x))
    → Descended pt pt' t t' ch c (record { numer = f.p; denom = f.q })
descended {pt} {pt'} ch c a v h r =
    record {
      steps = a;
      mu = subst (Stored pt pt' 0) v.value h;
      numer = is_eq r.p (ap (λ x. (Tree.reduce_to_single_evaluation ExtRing c x).p) v.value);
      denom = is_eq r.q (ap (λ x. (Tree.reduce_to_single_evaluation ExtRing c x).q) v.value);
    }

pub opened : {pt : List ℕ} {t t' : State} (ch : Source E.Ext) (s : Claimed) {x prod claim xi : Ext} → Steps t t' 4 1 ((Drawing ch).drawn (log_of t))
    → Is x (ch (log_of t)) → Is prod (E.mul (dec x) (dec s.denom)) → Is claim (E.add (dec s.numer) (dec prod)) → Is xi (cell pt 0)
    → LayerOpened pt t t' ch s (record { lambda = x; first = record { claim = claim; eq = record { c0 = 1; c1 = 0; c2 = 0; c3 = 0 }; xi = xi } })
opened ch s a v p c x =
    record {
      steps = a;
      lambda = v;
      claim = is_eq c (ap (E.add (dec s.numer)) (p.value ∙ ap (λ y. E.mul y (dec s.denom)) v.value));
      eq = one_is;
      xi = x;
    }
