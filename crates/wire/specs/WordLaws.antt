-- Laws of canonical words: in a list put together, and what a search that found nothing says of an element.
-- Assumes nothing.
use Rattle.std.specs.Prelude.{◌≡◌, refl, Bool, true, false, cond, List, [], ◌∷◌, ◌++◌, ℕ, zero, suc, ◌+◌, ◌<◌, ◌≤◌, ltb, length, get_or}
use Rattle.std.proofs.Common.{sym, ◌∙◌, ap, arith, ltb-true, lt-ltb}
use Rattle.field.specs.Base.{P}
use Rattle.field.specs.Element.{Canon}
use Rattle.field.specs.declared.Ext.{Ext}
use Rattle.wire.specs.Words.{all_canonical, first_bad, ext_words}

le_test : (t : Bool) (x n : ℕ) → x ≤ n → cond t (suc x) 0 ≤ suc n
le_test true x n h = omega arith
le_test false x n h = omega arith

pub bad_le : (ws : List ℕ) → first_bad ws ≤ length ws
unfolding first_bad
bad_le [] = omega arith
bad_le (w ∷ ws) = le_test (ltb w P) (first_bad ws) (length ws) (bad_le ws)

-- a bad word in the first part is the first of all
here_test : (t : Bool) (x y n : ℕ) → cond t (suc x) 0 < suc n → (x < n → y ≡ x) → cond t (suc y) 0 ≡ cond t (suc x) 0
here_test true x y n h f = ap suc (f (omega arith))
here_test false x y n h f = refl

pub bad_here : (vs ws : List ℕ) → first_bad vs < length vs → first_bad (vs ++ ws) ≡ first_bad vs
unfolding first_bad
bad_here [] ws h = absurd (omega arith)
bad_here (v ∷ vs) ws h = here_test (ltb v P) (first_bad vs) (first_bad (vs ++ ws)) (length vs) h (bad_here vs ws)

-- with none in the first part, it is the first of the second
past_test : (t : Bool) (x y n m : ℕ) → suc n ≤ cond t (suc x) 0 → (n ≤ x → y ≡ n + m) → cond t (suc y) 0 ≡ suc n + m
past_test true x y n m h f = omega (arith, f (omega arith))
past_test false x y n m h f = absurd (omega arith)

pub bad_past : (vs ws : List ℕ) → length vs ≤ first_bad vs → first_bad (vs ++ ws) ≡ length vs + first_bad ws
unfolding first_bad
bad_past [] ws h = omega arith
bad_past (v ∷ vs) ws h = past_test (ltb v P) (first_bad vs) (first_bad (vs ++ ws)) (length vs) (first_bad ws) h (bad_past vs ws)

-- all are canonical just where none is bad
all_test : (t : Bool) (b : Bool) (x n : ℕ) → cond t b false ≡ true → (b ≡ true → x ≡ n) → cond t (suc x) 0 ≡ suc n
all_test true b x n h f = ap suc (f h)
all_test false b x n h f = absurd (let z : ◌≡◌ {A = ℕ} 0 1 = cc in omega arith)

pub canonical_none : (ws : List ℕ) → all_canonical ws ≡ true → first_bad ws ≡ length ws
unfolding first_bad all_canonical
canonical_none [] h = refl
canonical_none (w ∷ ws) h = all_test (ltb w P) (all_canonical ws) (first_bad ws) (length ws) h (canonical_none ws)

none_test : (t : Bool) (b : Bool) (x n : ℕ) → suc n ≤ cond t (suc x) 0 → (n ≤ x → b ≡ true) → cond t b false ≡ true
none_test true b x n h f = f (omega arith)
none_test false b x n h f = absurd (omega arith)

pub none_canonical : (ws : List ℕ) → length ws ≤ first_bad ws → all_canonical ws ≡ true
unfolding first_bad all_canonical
none_canonical [] h = refl
none_canonical (w ∷ ws) h = none_test (ltb w P) (all_canonical ws) (first_bad ws) (length ws) h (none_canonical ws)

some_test : (t : Bool) (b : Bool) (x n : ℕ) → cond t (suc x) 0 < suc n → (x < n → b ≡ false) → cond t b false ≡ false
some_test true b x n h f = f (omega arith)
some_test false b x n h f = refl

pub some_bad : (ws : List ℕ) → first_bad ws < length ws → all_canonical ws ≡ false
unfolding first_bad all_canonical
some_bad [] h = absurd (omega arith)
some_bad (w ∷ ws) h = some_test (ltb w P) (all_canonical ws) (first_bad ws) (length ws) h (some_bad ws)

cond_assoc : (a b c : Bool) → cond a (cond b c false) false ≡ cond (cond a b false) c false
cond_assoc true b c = refl
cond_assoc false b c = refl

pub canonical_append : (vs ws : List ℕ) → all_canonical (vs ++ ws) ≡ cond (all_canonical vs) (all_canonical ws) false
unfolding all_canonical
canonical_append [] ws = refl
canonical_append (v ∷ vs) ws = ap (λ b. cond (ltb v P) b false) (canonical_append vs ws) ∙ cond_assoc (ltb v P) (all_canonical vs) (all_canonical ws)

both_left : (a b : Bool) → cond a b false ≡ true → a ≡ true
both_left true b h = refl
both_left false b h = h

both_right : (a b : Bool) → cond a b false ≡ true → b ≡ true
both_right true b h = h
both_right false b h = absurd (let z : ◌≡◌ {A = ℕ} 0 1 = cc in omega arith)

pub canonical_left : (vs ws : List ℕ) → all_canonical (vs ++ ws) ≡ true → all_canonical vs ≡ true
canonical_left vs ws h = both_left (all_canonical vs) (all_canonical ws) (sym (canonical_append vs ws) ∙ h)

pub canonical_right : (vs ws : List ℕ) → all_canonical (vs ++ ws) ≡ true → all_canonical ws ≡ true
canonical_right vs ws h = both_right (all_canonical vs) (all_canonical ws) (sym (canonical_append vs ws) ∙ h)

pub canonical_head : (w : ℕ) (ws : List ℕ) → all_canonical (w ∷ ws) ≡ true → w < P
unfolding all_canonical
canonical_head w ws h = ltb-true w P (both_left (ltb w P) (all_canonical ws) h)

pub canonical_tail : (w : ℕ) (ws : List ℕ) → all_canonical (w ∷ ws) ≡ true → all_canonical ws ≡ true
unfolding all_canonical
canonical_tail w ws h = both_right (ltb w P) (all_canonical ws) h

pub canonical_below : (ws : List ℕ) → all_canonical ws ≡ true → (k : ℕ) → get_or ws k 0 < P
canonical_below [] h k = omega arith
canonical_below (w ∷ ws) h zero = canonical_head w ws h
canonical_below (w ∷ ws) h (suc k) = canonical_below ws (canonical_tail w ws h) k

pub canonical_elem : (e : Ext) → all_canonical (ext_words e) ≡ true → Canon e
canonical_elem e h =
    let b = canonical_below (ext_words e) h in
    record { c0 = b 0; c1 = b 1; c2 = b 2; c3 = b 3 }

pub elem_canonical : (e : Ext) → Canon e → all_canonical (ext_words e) ≡ true
unfolding all_canonical
elem_canonical e h = rw (lt-ltb e.c0 P h.c0, lt-ltb e.c1 P h.c1, lt-ltb e.c2 P h.c2, lt-ltb e.c3 P h.c3)
