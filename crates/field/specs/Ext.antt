-- The extension: c0 + c1·x + c2·x² + c3·x³ over the base field, with x⁴ = 11.
-- Assumes nothing.
use Rattle.std.specs.Prelude.{ℕ, Bool, ◌&&◌}
use Rattle.field.specs.Base as B
use Rattle.field.specs.Base.{F, of}

pub record Ext : Type 0 where
  pub c0 : F
  pub c1 : F
  pub c2 : F
  pub c3 : F

unfoldable pub eleven : F
eleven = of 11

-- the element with these four numbers
unfoldable pub ext : (n0 n1 n2 n3 : ℕ) → Ext
ext n0 n1 n2 n3 = record { c0 = of n0; c1 = of n1; c2 = of n2; c3 = of n3 }

-- a base element as an element
unfoldable pub emb : F → Ext
emb a = record { c0 = a; c1 = B.nil; c2 = B.nil; c3 = B.nil }

unfoldable pub add : Ext → Ext → Ext
add a b = record { c0 = B.add a.c0 b.c0; c1 = B.add a.c1 b.c1; c2 = B.add a.c2 b.c2; c3 = B.add a.c3 b.c3 }

unfoldable pub neg : Ext → Ext
neg a = record { c0 = B.neg a.c0; c1 = B.neg a.c1; c2 = B.neg a.c2; c3 = B.neg a.c3 }

-- what is left of a product once x⁴ is 11
unfoldable pub mul : Ext → Ext → Ext
mul a b =
    record {
      c0 = B.add (B.mul a.c0 b.c0) (B.mul eleven (B.add (B.add (B.mul a.c1 b.c3) (B.mul a.c2 b.c2)) (B.mul a.c3 b.c1)));
      c1 = B.add (B.add (B.mul a.c0 b.c1) (B.mul a.c1 b.c0)) (B.mul eleven (B.add (B.mul a.c2 b.c3) (B.mul a.c3 b.c2)));
      c2 = B.add (B.add (B.add (B.mul a.c0 b.c2) (B.mul a.c1 b.c1)) (B.mul a.c2 b.c0)) (B.mul eleven (B.mul a.c3 b.c3));
      c3 = B.add (B.add (B.add (B.mul a.c0 b.c3) (B.mul a.c1 b.c2)) (B.mul a.c2 b.c1)) (B.mul a.c3 b.c0);
    }

unfoldable pub nil : Ext
nil = emb B.nil

unfoldable pub one : Ext
one = emb B.one

unfoldable pub two : Ext
two = add one one

unfoldable pub x : Ext
x = record { c0 = B.nil; c1 = B.one; c2 = B.nil; c3 = B.nil }

-- the inverses of 2 and of 6
unfoldable pub half : Ext
half = emb B.half

unfoldable pub sixth : Ext
sixth = emb B.sixth

-- the test of equality, coordinate by coordinate
unfoldable pub same : Ext → Ext → Bool
same a b = B.same a.c0 b.c0 && (B.same a.c1 b.c1 && (B.same a.c2 b.c2 && B.same a.c3 b.c3))
