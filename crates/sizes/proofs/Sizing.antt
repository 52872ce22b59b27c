-- The least number of rounds, as a search from the smallest finds it.
-- Assumes nothing.
use Rattle.std.specs.Prelude.{◌≡◌, ℕ, suc, ◌+◌, ◌-◌, ◌^◌, ◌<◌, ◌≤◌, eqb}
use Rattle.std.proofs.Common.{sym, ◌∙◌, ap, arith, le-leb, eq-eqb, ne_eqb, add-one}
use Rattle.std.proofs.lemmas.Bool.{lt-leb}
use Rattle.refusal.specs.Limits.{max_rounds}
use Rattle.sizes.specs.Sizes.{rounds_from, rounds_of, is_size}

-- after n tests that failed, what is sought from here is what was sought
abbrev pub Seeking : (count n : ℕ) → Type 0
Seeking count n = rounds_of count ≡ rounds_from (max_rounds - n) n count

left : (n : ℕ) → n < max_rounds → max_rounds - n ≡ suc (max_rounds - (n + 1))
left n h = omega arith

pub seek_next : (count n : ℕ) → n < max_rounds → 2 ^ n < count → Seeking count n → Seeking count (n + 1)
unfolding rounds_from
seek_next count n l h s = s ∙ rw (left n l, lt-leb count (2 ^ n) h) (ap (λ k. rounds_from (max_rounds - (n + 1)) k count) (sym (add-one n)))

pub seek_here : (count n : ℕ) → n < max_rounds → count ≤ 2 ^ n → Seeking count n → n ≡ rounds_of count
unfolding rounds_from
seek_here count n l h s = sym (s ∙ rw (left n l, le-leb count (2 ^ n) h))

pub seek_end : (count n : ℕ) → max_rounds ≤ n → n ≤ max_rounds → Seeking count n → max_rounds ≡ rounds_of count
unfolding rounds_from
seek_end count n l h s = let e : max_rounds - n ≡ 0 = omega arith in let m : max_rounds ≡ n = omega arith in sym (s ∙ rw e (sym m))

pub size_none : (count : ℕ) → count ≡ 0 → eqb count 0 ≡ is_size count
unfolding is_size
size_none count h = rw (eq-eqb count 0 h)

pub size_some : (count rows : ℕ) → (count ≡ 0 → ⊥) → rows ≡ 2 ^ rounds_of count → eqb count rows ≡ is_size count
unfolding is_size
size_some count rows h e = rw (ne_eqb count 0 h) (ap (eqb count) e)
