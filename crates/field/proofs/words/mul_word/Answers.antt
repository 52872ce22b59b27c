use Prim.Native.Nat.{◌*◌, ◌≤◌}
use native.Mathlib.Nat.{mul-le-mul}
use native.Mathlib.Omega.{arith}
use mathlib.Core.Path.{◌∙◌}
use Rattle.field.specs.BaseRing.{of_mod, of_mul}
use borrow.Author.Rules.{rules}
use Rattle.field.proofs.words.mul_word.Goals as goal

pub overflow_mul-result : goal.overflow_mul-result
overflow_mul-result c = let small : c.args.a * c.args.b ≤ 18446744065119617025 = mul-le-mul {n₂ = 4294967295} {m₂ = 4294967295} (omega arith) (omega arith) in
    omega (arith, small)

pub returns : goal.returns
returns c = (search rules, of_mod _ ∙ of_mul _ _)
