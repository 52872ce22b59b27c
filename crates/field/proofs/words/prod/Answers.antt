use mathlib.Core.Path.{refl}
use Prim.Native.Nat.{◌*◌, ◌≤◌}
use native.Mathlib.Nat.{mul-le-mul}
use native.Mathlib.Omega.{arith}
use Rattle.field.proofs.words.prod.Goals as goal

small : (c : goal.Start) → c.args.a * c.args.b ≤ 4053239664633446400
small c = mul-le-mul {n₂ = 2013265920} {m₂ = 2013265920} (omega arith) (omega arith)

pub overflow_mul-result : goal.overflow_mul-result
overflow_mul-result c = omega (arith, small c)

pub returns : goal.returns
returns c = (refl, small c)
