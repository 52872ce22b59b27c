-- The three summands of a pair, from entries found by adding the difference.
-- Assumes nothing.
use mathlib.Core.Path.{◌≡◌, ◌∙◌, ap, ap₂}
use Rattle.field.specs.Ext as E
use Rattle.field.specs.ExtRing.{ExtRing}
use Rattle.field.specs.Element.{dec, Is}
use Rattle.multilinear.specs.RoundSum as RoundSum
use Rattle.multilinear.specs.RoundSum.{Claims}
use Rattle.field.specs.declared.Ext.{Ext}
use Rattle.step.specs.declared.Entry.{Entry}
use Rattle.step.specs.declared.Three.{Three}
use Rattle.step.specs.Values.{CanonEntry, IsEntry, IsThree, dec_claims, zip, minus, line, two, three, summand_at, weigh, numerator, weighed_at}
use Rattle.step.proofs.Algebra.{at_one, at_two, at_three, cross_weighed, cross_none, line_weighed}

pub entry_canon : (t : Entry) (x : E.Ext) (c : Claims E.Ext) → IsEntry t x c → CanonEntry t
entry_canon t x c h = record { e = h.e.canon; l = record { p = h.l.p.canon; q = h.l.q.canon }; r = record { p = h.r.p.canon; q = h.r.q.canon } }

pub entry_claims : (t : Entry) (x : E.Ext) (c : Claims E.Ext) → IsEntry t x c → dec_claims t ≡ c
entry_claims t x c h = λ i. record { p0 = h.l.p.value i; q0 = h.l.q.value i; p1 = h.r.p.value i; q1 = h.r.q.value i }

abbrev pub plain : E.Ext → Claims E.Ext → E.Ext
plain e c = E.mul e (numerator c)

-- t1, t2, t3 are the lines at 1, 2, 3, as found by adding the difference d of t1 and t0
module _ (t0 t1 d t2 t3 : Entry)
    (hd : IsEntry d (minus (dec t1.e) (dec t0.e)) (zip minus (dec_claims t1) (dec_claims t0)))
    (h2 : IsEntry t2 (E.add (dec t1.e) (dec d.e)) (zip E.add (dec_claims t1) (dec_claims d)))
    (h3 : IsEntry t3 (E.add (dec t2.e) (dec d.e)) (zip E.add (dec_claims t2) (dec_claims d))) where
  abbrev e0 : E.Ext
  e0 = dec t0.e

  abbrev e1 : E.Ext
  e1 = dec t1.e

  abbrev c0 : Claims E.Ext
  c0 = dec_claims t0

  abbrev c1 : Claims E.Ext
  c1 = dec_claims t1

  abbrev at : E.Ext → E.Ext
  at x = weighed_at x e0 e1 c0 c1

  ee : dec t2.e ≡ E.add e1 (minus e1 e0)
  ee = h2.e.value ∙ ap₂ E.add (λ _. e1) hd.e.value

  cd : dec_claims d ≡ zip minus c1 c0
  cd = entry_claims d _ _ hd

  ce : dec_claims t2 ≡ zip E.add c1 (zip minus c1 c0)
  ce = entry_claims t2 _ _ h2 ∙ ap₂ (zip E.add) (λ _. c1) cd

  one : plain e1 c1 ≡ at E.one
  one = ap₂ plain (at_one e0 e1) (λ i. zip (λ u v. at_one u v i) c0 c1)

  second : plain (dec t2.e) (dec_claims t2) ≡ at two
  second = ap₂ plain (ee ∙ at_two e0 e1) (ce ∙ λ i. zip (λ u v. at_two u v i) c0 c1)

  third : plain (dec t3.e) (dec_claims t3) ≡ at three
  third =
      ap₂ plain (h3.e.value ∙ ap₂ E.add ee hd.e.value ∙ at_three e0 e1)
      (entry_claims t3 _ _ h3 ∙ ap₂ (zip E.add) ce cd ∙ λ i. zip (λ u v. at_three u v i) c0 c1)

  pub summands_are : (s1 s2 s3 : Ext) → Is s1 (plain e1 c1) → Is s2 (plain (dec t2.e) (dec_claims t2)) → Is s3 (plain (dec t3.e) (dec_claims t3))
      → IsThree (record { s1 = s1; s2 = s2; s3 = s3 }) (at E.one) (at two) (at three)
  summands_are s1 s2 s3 i1 i2 i3 = record {
    s1 = record { canon = i1.canon; value = i1.value ∙ one };
    s2 = record { canon = i2.canon; value = i2.value ∙ second };
    s3 = record { canon = i3.canon; value = i3.value ∙ third };
  }

-- lambda taken into p1 makes of the numerator what the claims are batched to
pub weighed_cross : (l : E.Ext) (c : Claims E.Ext) → numerator (weigh l c) ≡ RoundSum.cross ExtRing l c
weighed_cross l c = cross_weighed c.p0 c.q0 c.p1 c.q1 l

pub weighed_at_is : (x l e0 e1 : E.Ext) (c0 c1 : Claims E.Ext) → weighed_at x e0 e1 (weigh l c0) (weigh l c1) ≡ summand_at x l e0 e1 c0 c1
weighed_at_is x l e0 e1 c0 c1 =
    let q : E.Ext = line x c0.q0 c1.q0 in
    let r : E.Ext = E.mul (line x c0.p0 c1.p0) (line x c0.q1 c1.q1) in
    ap (λ w. E.mul (line x e0 e1) (E.add r (E.mul q w))) (line_weighed x l c0.p1 c0.q1 c1.p1 c1.q1)
    ∙ ap (E.mul (line x e0 e1)) (weighed_cross l (zip (line x) c0 c1))

pub numerator_cross : (c : Claims E.Ext) → numerator c ≡ RoundSum.cross ExtRing E.nil c
numerator_cross c = cross_none c.p0 c.q0 c.p1 c.q1

-- weighed claims are those of a run with a lambda of nothing
pub plain_at : (x e0 e1 : E.Ext) (c0 c1 : Claims E.Ext) → weighed_at x e0 e1 c0 c1 ≡ summand_at x E.nil e0 e1 c0 c1
plain_at x e0 e1 c0 c1 = ap (E.mul (line x e0 e1)) (numerator_cross (zip (line x) c0 c1))

-- from weighed entries to the entries
module _ (l : E.Ext) (t u : Entry) (h : IsEntry u (dec t.e) (weigh l (dec_claims t))) where
  pub summand_is : (x : Ext) → Is x (plain (dec u.e) (dec_claims u)) → Is x (E.mul (dec t.e) (RoundSum.cross ExtRing l (dec_claims t)))
  summand_is x i = record { canon = i.canon; value = i.value ∙ ap₂ plain h.e.value (entry_claims u _ _ h) ∙ ap (E.mul (dec t.e)) (weighed_cross l (dec_claims t)) }

module _ (l : E.Ext) (t0 t1 u0 u1 : Entry) (h0 : IsEntry u0 (dec t0.e) (weigh l (dec_claims t0))) (h1 : IsEntry u1 (dec t1.e) (weigh l (dec_claims t1))) where
  at_of : (x : E.Ext) (s : Ext) → Is s (weighed_at x (dec u0.e) (dec u1.e) (dec_claims u0) (dec_claims u1)) → Is s (summand_at x l (dec t0.e) (dec t1.e) (dec_claims t0) (dec_claims t1))
  at_of x s i = record {
    canon = i.canon;
    value =
        i.value
        ∙ (λ j. weighed_at x (h0.e.value j) (h1.e.value j) (entry_claims u0 _ _ h0 j) (entry_claims u1 _ _ h1 j))
        ∙ weighed_at_is x l (dec t0.e) (dec t1.e) (dec_claims t0) (dec_claims t1);
  }

  pub summands_of : (s : Three) → IsThree s (weighed_at E.one (dec u0.e) (dec u1.e) (dec_claims u0) (dec_claims u1)) (weighed_at two (dec u0.e) (dec u1.e) (dec_claims u0) (dec_claims u1)) (weighed_at three (dec u0.e) (dec u1.e) (dec_claims u0) (dec_claims u1))
      → IsThree s (summand_at E.one l (dec t0.e) (dec t1.e) (dec_claims t0) (dec_claims t1)) (summand_at two l (dec t0.e) (dec t1.e) (dec_claims t0) (dec_claims t1)) (summand_at three l (dec t0.e) (dec t1.e) (dec_claims t0) (dec_claims t1))
  summands_of s i = record { s1 = at_of E.one _ i.s1; s2 = at_of two _ i.s2; s3 = at_of three _ i.s3 }
