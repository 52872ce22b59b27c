-- What a search for a word that is not canonical says: none found, or the first, in a list put together too. As `first_bad_word` gives it: the answer first.
-- Assumes nothing.
use Rattle.std.specs.Prelude.{◌≡◌, refl, Bool, true, false, cond, Some, None, List, ◌++◌, ℕ, ◌+◌, ◌<◌, ◌≤◌, ltb, length}
use Rattle.std.proofs.Common.{sym, ◌∙◌, ap, arith, length-append, le-ltb, lt-ltb, ltb-true, ltb-false}
use Rattle.wire.specs.Words.{all_canonical, first_bad, bad_place}
use Rattle.wire.specs.WordLaws.{bad_here, bad_past, canonical_none, none_canonical, some_bad}

-- BY THE PLACE THAT THE DEFINITIONS COUNT

pub place_at : (ws : List ℕ) → first_bad ws < length ws → bad_place ws ≡ Some (first_bad ws)
place_at ws h = rw (lt-ltb (first_bad ws) (length ws) h)

pub place_past : (ws : List ℕ) → length ws ≤ first_bad ws → bad_place ws ≡ None
place_past ws h = rw (le-ltb (first_bad ws) (length ws) h)

none_test : (b : Bool) (k : ℕ) → None ≡ cond b (Some k) None → b ≡ false
none_test true k e = cc
none_test false k e = refl

some_test : (b : Bool) (k j : ℕ) → Some j ≡ cond b (Some k) None → (b ≡ true) × (j ≡ k)
some_test true k j e = (refl, cc)
some_test false k j e = cc

pub past_place : (ws : List ℕ) → None ≡ bad_place ws → length ws ≤ first_bad ws
past_place ws e = ltb-false _ _ (none_test (ltb (first_bad ws) (length ws)) (first_bad ws) e)

pub at_place : (ws : List ℕ) (k : ℕ) → Some k ≡ bad_place ws → (k ≡ first_bad ws) × (k < length ws)
at_place ws k e = let t = some_test (ltb (first_bad ws) (length ws)) (first_bad ws) k e in (t.1, rw t.1 (ltb-true _ _ t.0))

-- BY THE TEST OF THE WHOLE LIST

pub canonical_place : (ws : List ℕ) → all_canonical ws ≡ true → bad_place ws ≡ None
canonical_place ws h = place_past ws (let e = canonical_none ws h in omega arith)

-- none or some: a list that is not canonical has a first bad word
pub bad_there : (ws : List ℕ) → all_canonical ws ≡ false → bad_place ws ≡ Some (first_bad ws)
bad_there ws h = ap (λ b. cond b (Some (first_bad ws)) None) (below (ltb (first_bad ws) (length ws)) refl)
  where
    below : (b : Bool) → ltb (first_bad ws) (length ws) ≡ b → ltb (first_bad ws) (length ws) ≡ true
    below true e = e
    below false e = let t = none_canonical ws (ltb-false _ _ e) in cc

pub place_canonical : (ws : List ℕ) → None ≡ bad_place ws → all_canonical ws ≡ true
place_canonical ws e = none_canonical ws (past_place ws e)

pub place_bad : (ws : List ℕ) (k : ℕ) → Some k ≡ bad_place ws → (k ≡ first_bad ws) × (all_canonical ws ≡ false)
place_bad ws k e = let t = at_place ws k e in (t.0, some_bad ws (let p = t.1 in rw t.0 at p))

-- IN TWO PARTS

pub place_here : (vs ws : List ℕ) (k : ℕ) → Some k ≡ bad_place vs → Some k ≡ bad_place (vs ++ ws)
place_here vs ws k e =
    let t = at_place vs k e in
    let h : first_bad vs < length vs = let p = t.1 in rw t.0 at p in
    let f = bad_here vs ws h in
    let l = length-append vs ws in
    ap Some (t.0 ∙ sym f) ∙ sym (place_at (vs ++ ws) (omega arith))

pub place_later : (vs ws : List ℕ) (k : ℕ) → None ≡ bad_place vs → Some k ≡ bad_place ws → Some (length vs + k) ≡ bad_place (vs ++ ws)
place_later vs ws k e d =
    let t = at_place ws k d in
    let f = bad_past vs ws (past_place vs e) in
    let l = length-append vs ws in
    let g : length vs + k ≡ first_bad (vs ++ ws) = omega (arith, t.0) in
    ap Some g ∙ sym (place_at (vs ++ ws) (omega (arith, t.0, t.1)))

pub place_nowhere : (vs ws : List ℕ) → None ≡ bad_place vs → None ≡ bad_place ws → None ≡ bad_place (vs ++ ws)
place_nowhere vs ws e d =
    let f = bad_past vs ws (past_place vs e) in
    let l = length-append vs ws in
    let p = past_place ws d in
    sym (place_past (vs ++ ws) (omega arith))
