-- Claims that are kept, and claims that are weighed.
-- Assumes nothing.
use mathlib.Core.Path.{◌≡◌, refl, ◌∙◌, ap₂}
use mathlib.Core.List.{List}
use Prim.Native.Nat.{ℕ, ◌+◌, ◌*◌, ◌<◌, ◌≤◌}
use native.Mathlib.Nat.{not-suc-le-zero}
use native.Mathlib.Omega.{arith}
use borrow.Author.Count.{below_more}
use Rattle.field.specs.Ext as E
use Rattle.field.specs.Cells.{cell, Clean, Stored}
use Rattle.step.specs.Values.{weigh}
use Rattle.prover_layer.specs.Columns.{claims, Weighed}

pub claims_kept : (ws ws' : List ℕ) (b y : ℕ) → ((j : ℕ) → 2 * b + 4 * y ≤ j → j < 2 * b + 4 * y + 4 → cell ws' j ≡ cell ws j) → claims ws' b y ≡ claims ws b y
claims_kept ws ws' b y h = λ t. record {
  p0 = h (2 * (b + 2 * y)) (omega arith) (omega arith) t;
  q0 = h (2 * (b + 2 * y) + 1) (omega arith) (omega arith) t;
  p1 = h (2 * (b + (2 * y + 1))) (omega arith) (omega arith) t;
  q1 = h (2 * (b + (2 * y + 1)) + 1) (omega arith) (omega arith) t;
}

pub weighs_none : (ws : List ℕ) (b : ℕ) (l : E.Ext) → Clean ws → Weighed ws ws b 0 l
weighs_none ws b l h = record { clean = h; nodes = λ y u. absurd (not-suc-le-zero u); below = λ j u. refl; above = λ j u. refl }

pub weighs_next : (ws₀ ws ws' : List ℕ) (b n : ℕ) (l : E.Ext) → Weighed ws₀ ws b n l
    → Stored ws ws' (2 * (b + (2 * n + 1))) (E.add (E.mul (cell ws (2 * (b + (2 * n + 1)) + 1)) l) (cell ws (2 * (b + (2 * n + 1)))))
    → Weighed ws₀ ws' b (n + 1) l
weighs_next ws₀ ws ws' b n l f s =
    record {
      clean = s.clean;
      nodes = below_more (λ y. claims ws' b y ≡ weigh l (claims ws₀ b y)) n
          (λ y u. claims_kept ws ws' b y (λ j p q. s.rest j (λ e. omega arith)) ∙ f.nodes y u)
          (λ i. record {
            p0 = (s.rest (2 * (b + 2 * n)) (λ e. omega arith) ∙ f.above (2 * (b + 2 * n)) (omega arith)) i;
            q0 = (s.rest (2 * (b + 2 * n) + 1) (λ e. omega arith) ∙ f.above (2 * (b + 2 * n) + 1) (omega arith)) i;
            p1 = (s.here ∙ ap₂ (λ q p. E.add (E.mul q l) p) (f.above (2 * (b + (2 * n + 1)) + 1) (omega arith)) (f.above (2 * (b + (2 * n + 1))) (omega arith))) i;
            q1 = (s.rest (2 * (b + (2 * n + 1)) + 1) (λ e. omega arith) ∙ f.above (2 * (b + (2 * n + 1)) + 1) (omega arith)) i;
          });
      below = λ j u. s.rest j (λ e. omega arith) ∙ f.below j u;
      above = λ j u. s.rest j (λ e. omega arith) ∙ f.above j (omega arith);
    }
