-- Which test of a list answers: by its place, by cases, and past a front part of the list.
-- Assumes nothing.
use Rattle.std.specs.Prelude.{◌≡◌, refl, Bool, true, false, cond, List, [], ◌∷◌, ℕ, zero, suc, take, drop}
use Rattle.std.proofs.Common.{ap}
use Rattle.refusal.specs.declared.Refusal.{Refusal}
use Rattle.refusal.specs.Tests.{Test, Tested, passed, refused, first_of}

-- the test at place k is met, with the refusal r, and none before it
abbrev pub MetAt : (ts : List Test) (k : ℕ) (r : Refusal) → Type 0
MetAt [] k r = ⊥
MetAt (t ∷ ts) zero r = (t.met ≡ true) × (t.refusal ≡ r)
MetAt (t ∷ ts) (suc k) r = (t.met ≡ false) × MetAt ts k r

pub met_at : (ts : List Test) (k : ℕ) (r : Refusal) → MetAt ts k r → first_of ts ≡ refused r
unfolding first_of
met_at [] k r h = absurd h
met_at (t ∷ ts) zero r h = rw h.0 (ap refused h.1)
met_at (t ∷ ts) (suc k) r h = rw h.0 (met_at ts k r h.1)

-- a pair: one test's fact, and those of the others
pub both : {A B : Type 0} → A → B → A × B
both a b = (a, b)

-- Q of each refusal where its test is the first that is met, and of passed
abbrev pub Ways : (Q : Tested → Type 0) → List Test → Type 0
Ways Q [] = Q passed
Ways Q (t ∷ ts) = (t.met ≡ true → Q (refused t.refusal)) × (t.met ≡ false → Ways Q ts)

either : (Q : Tested → Type 0) (b : Bool) (x y : Tested) → (b ≡ true → Q x) → (b ≡ false → Q y) → Q (cond b x y)
either Q true x y h k = h refl
either Q false x y h k = k refl

pub each_way : (Q : Tested → Type 0) (ts : List Test) → Ways Q ts → Q (first_of ts)
unfolding first_of
each_way Q [] w = w
each_way Q (t ∷ ts) w = either Q t.met _ _ w.0 (λ e. each_way Q ts (w.1 e))

-- the first outcome, and the second where that is passed
abbrev pub next : Tested → Tested → Tested
next passed t = t
next (refused r) t = refused r

pub next_passed : (t : Tested) → next t passed ≡ t
next_passed passed = refl
next_passed (refused r) = refl

-- the first k tests, and then the others
pub first_split : (k : ℕ) (ts : List Test) → first_of ts ≡ next (first_of (take k ts)) (first_of (drop k ts))
unfolding first_of
first_split zero [] = refl
first_split zero (t ∷ ts) = refl
first_split (suc k) [] = refl
first_split (suc k) (t ∷ ts) = go t.met (first_split k ts)
  where
    go : (b : Bool) → first_of ts ≡ next (first_of (take k ts)) (first_of (drop k ts))
        → cond b (refused t.refusal) (first_of ts) ≡ next (cond b (refused t.refusal) (first_of (take k ts))) (first_of (drop k ts))
    go true h = refl
    go false h = h
