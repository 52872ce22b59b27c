use mathlib.Core.Path.{◌∙◌, ap}
use mathlib.Core.List.{List}
use Prim.Native.Nat.{ℕ}
use Rattle.keccak.specs.Keccak.{add_first, chi, pi, rho}
use Rattle.keccak.proofs.one_round.Goals as goal

pub returns : goal.returns
returns c = c.mix_rows.ensures
    ∙ ap (λ (l : List ℕ). add_first c.args.w (chi l))
    (c.move_lanes.ensures ∙ ap (λ (l : List ℕ). pi (rho l)) c.mix_columns.ensures)
