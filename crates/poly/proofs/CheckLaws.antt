-- What is known where no test failed, and what a test of a chain answers.
-- Assumes nothing.
use Rattle.std.specs.Prelude.{◌≡◌, refl, Bool, true, false, ◌≤◌, leb, Result, Ok}
use Rattle.std.proofs.Common.{◌∙◌, sym, leb-true}
use Rattle.refusal.specs.Limits.{max_rounds, max_rows}
use Rattle.refusal.specs.declared.Refusal.{Refusal}
use Rattle.refusal.specs.declared.Refusal.TheVariants.{TooManyRows, NotPowerOfTwo, ShortRoom, TooManyRounds, BadLength}
use Rattle.poly.specs.Checks.{Sizes, bad_word, unless, refusal}

-- ---- no test failed
pub record Passed (s : Sizes) (w : Bool) : Type 0 where
  pub lists : s.lists ≡ true
  pub variables : s.variables ≤ max_rounds
  pub table : s.table ≡ true
  pub entries : s.entries ≤ max_rows
  pub power : s.power ≡ true
  pub room : s.room ≡ true
  pub words : w ≡ true

unless_done : (b : Bool) (why : Refusal) (rest : Result (Unit {0}) Refusal) → unless b why rest ≡ Ok tt → (b ≡ true) × (rest ≡ Ok tt)
unless_done true why rest h = (refl, h)
unless_done false why rest h = cc

pub passed : (s : Sizes) (w : Bool) → refusal s w ≡ Ok tt → Passed s w
unfolding refusal
passed s w h =
    let a = unless_done s.lists BadLength _ h in
    let b = unless_done (leb s.variables max_rounds) TooManyRounds _ a.1 in
    let c = unless_done s.table BadLength _ b.1 in
    let d = unless_done (leb s.entries max_rows) TooManyRows _ c.1 in
    let e = unless_done s.power NotPowerOfTwo _ d.1 in
    let f = unless_done s.room ShortRoom _ e.1 in
    let g = unless_done w bad_word _ f.1 in
    record {
      lists = a.0;
      variables = leb-true s.variables max_rounds b.0;
      table = c.0;
      entries = leb-true s.entries max_rows d.0;
      power = e.0;
      room = f.0;
      words = g.0;
    }

-- ---- one test of a chain
pub passes : (b : Bool) (why : Refusal) {o : Result (Unit {0}) Refusal} → o ≡ unless b why (Ok tt) → o ≡ Ok tt → b ≡ true
passes b why h q = (unless_done b why (Ok tt) (sym h ∙ q)).0
