-- A list of tests is passed where none is met, and only there.
-- Assumes nothing.
use Rattle.std.specs.Prelude.{◌≡◌, refl, Bool, true, false, cond, List, [], ◌∷◌}
use Rattle.std.proofs.Common.{subst}
use Rattle.refusal.specs.declared.Refusal.{Refusal}
use Rattle.refusal.specs.Tests.{Test, Tested, passed, refused, first_of}

-- none of the tests is met
abbrev pub NoneMet : List Test → Type 0
NoneMet [] = Unit
NoneMet (t ∷ ts) = (t.met ≡ false) × NoneMet ts

pub all_passed : (ts : List Test) → NoneMet ts → first_of ts ≡ passed
unfolding first_of
all_passed [] h = refl
all_passed (t ∷ ts) h = rw h.0 (all_passed ts h.1)

met_not : (b : Bool) (r : Refusal) (x : Tested) → cond b (refused r) x ≡ passed → (b ≡ false) × (x ≡ passed)
met_not true r x h = absurd (subst (λ o. elim o as (λ _. Type 0) [ passed ↦ ⊥ | refused _ ↦ Unit ]) h tt)
met_not false r x h = (refl, h)

pub passed_all : (ts : List Test) → first_of ts ≡ passed → NoneMet ts
unfolding first_of
passed_all [] h = tt
passed_all (t ∷ ts) h = let m = met_not t.met t.refusal (first_of ts) h in (m.0, passed_all ts m.1)
