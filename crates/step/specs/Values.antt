-- The model's values that the structs of this crate stand for.
-- Assumes nothing.
use Rattle.ring.specs.Ring.{num}
use Rattle.field.specs.Ext as E
use Rattle.field.specs.ExtRing.{ExtRing}
use Rattle.field.specs.Element.{dec, Canon, Is}
use Rattle.multilinear.specs.Forms as Forms
use Rattle.multilinear.specs.RoundSum as RoundSum
use Rattle.multilinear.specs.RoundSum.{Claims}
use Rattle.gkr.specs.Run.{Frac}
use Rattle.step.specs.declared.Frac.{Frac as FracW}
use Rattle.step.specs.declared.Entry.{Entry as EntryW}
use Rattle.step.specs.declared.Three.{Three as ThreeW}

abbrev pub minus : E.Ext → E.Ext → E.Ext
minus a b = E.add a (E.neg b)

-- the line through a at 0 and b at 1, taken at r
abbrev pub line : E.Ext → E.Ext → E.Ext → E.Ext
line r a b = Forms.line ExtRing a b r

abbrev pub two : E.Ext
two = num ExtRing 2

abbrev pub three : E.Ext
three = num ExtRing 3

-- FRACTIONS

pub record CanonFrac (f : FracW) : Type 0 where
  pub p : Canon f.p
  pub q : Canon f.q

pub record IsFrac (r : FracW) (x : Frac E.Ext) : Type 0 where
  pub p : Is r.p x.p
  pub q : Is r.q x.q

abbrev pub dec_frac : FracW → Frac E.Ext
dec_frac f = record { p = dec f.p; q = dec f.q }

abbrev pub zip_frac : {A : Type 0} → (A → A → A) → Frac A → Frac A → Frac A
zip_frac g a b = record { p = g a.p b.p; q = g a.q b.q }

-- ENTRIES

pub record CanonEntry (t : EntryW) : Type 0 where
  pub e : Canon t.e
  pub l : CanonFrac t.l
  pub r : CanonFrac t.r

pub record IsEntry (t : EntryW) (x : E.Ext) (c : Claims E.Ext) : Type 0 where
  pub e : Is t.e x
  pub l : IsFrac t.l (record { p = c.p0; q = c.q0 })
  pub r : IsFrac t.r (record { p = c.p1; q = c.q1 })

abbrev pub dec_claims : EntryW → Claims E.Ext
dec_claims t = record { p0 = dec t.l.p; q0 = dec t.l.q; p1 = dec t.r.p; q1 = dec t.r.q }

abbrev pub zip : {A : Type 0} → (A → A → A) → Claims A → Claims A → Claims A
zip g a b = record { p0 = g a.p0 b.p0; q0 = g a.q0 b.q0; p1 = g a.p1 b.p1; q1 = g a.q1 b.q1 }

-- SUMMANDS

pub record CanonThree (t : ThreeW) : Type 0 where
  pub s1 : Canon t.s1
  pub s2 : Canon t.s2
  pub s3 : Canon t.s3

pub record IsThree (t : ThreeW) (a b c : E.Ext) : Type 0 where
  pub s1 : Is t.s1 a
  pub s2 : Is t.s2 b
  pub s3 : Is t.s3 c

-- the summand of s at x, from the entries at 2y and 2y + 1
abbrev pub summand_at : E.Ext → E.Ext → E.Ext → E.Ext → Claims E.Ext → Claims E.Ext → E.Ext
summand_at x lambda e0 e1 c0 c1 = E.mul (line x e0 e1) (RoundSum.cross ExtRing lambda (zip (line x) c0 c1))

-- the claims with p1 + lambda·q1 in the place of p1
abbrev pub weigh : E.Ext → Claims E.Ext → Claims E.Ext
weigh lambda c = record { p0 = c.p0; q0 = c.q0; p1 = E.add (E.mul c.q1 lambda) c.p1; q1 = c.q1 }

-- the numerator of the sum of both fractions
abbrev pub numerator : Claims E.Ext → E.Ext
numerator c = E.add (E.mul c.p0 c.q1) (E.mul c.q0 c.p1)

-- the summand of s at x, from weighed entries
abbrev pub weighed_at : E.Ext → E.Ext → E.Ext → Claims E.Ext → Claims E.Ext → E.Ext
weighed_at x e0 e1 c0 c1 = E.mul (line x e0 e1) (numerator (zip (line x) c0 c1))
