use mathlib.Core.Path.{◌∙◌}
use Prim.Native.Nat.{◌/◌, ◌%◌}
use Rattle.shake.proofs.QuadLaws.{swapped_quad}
use Rattle.shake.proofs.WindowLaws.{window_at, across}
use native.Mathlib.Omega.{arith}
use Rattle.shake.proofs.padded.quad_of_words.Goals as goal

pub returns : goal.returns
returns c = let j = c.args.j in
    let y = across c.from.result c.from-2.result (j % 4) in (
      c.from-3.ensures ∙ c.swap_bytes.ensures ∙ swapped_quad y (omega arith)
          ∙ window_at c.args.words.now j (j / 4) (j % 4) _ _ (omega arith) (omega arith) (omega arith) c.from.ensures c.from-2.ensures (omega arith) (omega arith),
      omega arith,
    )
