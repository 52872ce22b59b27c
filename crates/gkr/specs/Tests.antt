-- A test that passes, one that fails, and what holds either way.
-- Assumes nothing.
use Rattle.std.specs.Prelude.{◌≡◌, refl, Bool, true, false, cond}
use Rattle.std.proofs.Common.{ap}

pub pass : {A : Type 0} (b : Bool) (x y : A) → b ≡ true → cond b x y ≡ x
pass b x y e = ap (λ c. cond c x y) e

pub fail : {A : Type 0} (b : Bool) (x y : A) → b ≡ false → cond b x y ≡ y
fail b x y e = ap (λ c. cond c x y) e

pub either : {A : Type 0} (Q : A → Type 0) (b : Bool) (x y : A) → (b ≡ true → Q x) → (b ≡ false → Q y) → Q (cond b x y)
either Q true x y h k = h refl
either Q false x y h k = k refl
