-- The answers of the shape reader, and the turns of its loop over entries.
-- Assumes nothing.
use mathlib.Core.Path.{◌≡◌, refl, sym, ◌∙◌, ap, ap₂, subst}
use mathlib.Core.Bool.{Bool, true, false, cond}
use mathlib.Core.List.{List, ◌∷◌}
use Prim.Native.Nat.{ℕ, suc, ◌+◌, ◌*◌, ◌-◌, ◌<◌, ◌≤◌}
use native.Mathlib.Omega.{arith}
use Rattle.std.proofs.lemmas.List.{take_all}
use Rattle.std.proofs.Math.Numerals.{one-add}
use Rattle.std.specs.Prelude.{Ok, Err}
use borrow.Author.Tests.{ne_eqb, lt-leb, le-leb}
use lib.Dec.{eqb, leb}
use lib.ListN.{length, get_or, take, drop, length-drop}
use lib.Seq.{drop-drop}
use Rattle.field.specs.declared.Ext.{Ext}
use Rattle.multilinear.specs.RoundSum.{Claims}
use Rattle.gkr.specs.Run.{Cubic}
use Rattle.wire.specs.Bytes.{word, elem}
use Rattle.refusal.specs.declared.Refusal.TheVariants.{BadVersion, BadLength}
use Rattle.stored.specs.Shapes.{shape_of}
use Rattle.stored.specs.Parse.{claims_of, cubic_of, entry_size, entries_fit, known, count_of_layers, count_of_entries, polys_at, fits, parse}
use Rattle.stored.specs.ParseLaws.{claims_count, entries_count, reads_parse}

cond_false : (a : Bool) → cond a false false ≡ false
cond_false true = refl
cond_false false = refl

cond_twice : (a b : Bool) → cond a (cond b false false) false ≡ false
cond_twice true b = cond_false b
cond_twice false b = refl

-- ENTRIES
module _ (bs : List ℕ) (from n : ℕ) where
  -- k entries are passed, and `rest` is what is left of the bytes
  pub record Fitting (rest : List ℕ) (k : ℕ) : Type 0 where
    pub upto : k ≤ n
    pub left : entries_fit n (drop from bs) ≡ entries_fit (n - k) rest

  turn : (rest : List ℕ) (k : ℕ) → Fitting rest k → k < n → entries_fit n (drop from bs) ≡ cond (leb (entry_size rest) (length rest)) (entries_fit (n - (k + 1)) (drop (entry_size rest) rest)) false
  unfolding entries_fit
  turn rest k i h = let e : n - k ≡ suc (n - (k + 1)) = omega arith in i.left ∙ rw e

  none : (a b : ℕ) → b < a → (x : Bool) → cond (leb a b) x false ≡ false
  none a b l x = rw (lt-leb a b l)

  pub fitting_none : (rest : List ℕ) (k : ℕ) → Fitting rest k → k < n → length rest ≡ 0 → false ≡ entries_fit n (drop from bs)
  fitting_none rest k i h l = sym (turn rest k i h ∙ none (entry_size rest) (length rest) (omega arith) _)

  -- the first byte left is b, with `after` past it
  module _ (b c : ℕ) (rest after : List ℕ) (k : ℕ) (i : Fitting rest k) (h : k < n) (e : rest ≡ b ∷ after) (d : c ≡ b) where
    front : Fitting (c ∷ after) k
    front = subst (λ r. Fitting r k) (e ∙ ap (λ x. x ∷ after) (sym d)) i

    pub fitting_short : length after < 48 * c → false ≡ entries_fit n (drop from bs)
    fitting_short l = sym (turn (c ∷ after) k front h ∙ none (entry_size (c ∷ after)) (length (c ∷ after)) (omega arith) _)

    pub fitting_next : 48 * c ≤ length after → Fitting (take (length after - 48 * c) (drop (48 * c) after)) (k + 1)
    fitting_next l =
        let t : leb (entry_size (c ∷ after)) (length (c ∷ after)) ≡ true = le-leb (entry_size (c ∷ after)) (length (c ∷ after)) (omega arith) in
        let all : take (length after - 48 * c) (drop (48 * c) after) ≡ drop (48 * c) after = take_all _ (drop (48 * c) after) (omega (arith, length-drop (48 * c) after)) in
        let past : drop (1 + 48 * c) (c ∷ after) ≡ drop (48 * c) after = rw (one-add (48 * c)) in
        record { upto = omega arith; left = turn (c ∷ after) k front h ∙ rw (t, all) (ap (entries_fit (n - (k + 1))) past) }

  pub fitting_end : (rest : List ℕ) (k : ℕ) → Fitting rest k → n ≤ k → eqb (length rest) 0 ≡ entries_fit n (drop from bs)
  unfolding entries_fit
  fitting_end rest k i h = let e : n - k ≡ 0 = omega arith in sym (i.left ∙ rw e)

-- THE ANSWERS
module _ (bs : List ℕ) where
  pub no_version : {k : Bool} → k ≡ known bs → k ≡ false → Err BadVersion ≡ shape_of (parse bs)
  unfolding parse
  no_version e h = sym (rw (sym e ∙ h))

  module _ (v : known bs ≡ true) where
    no_fit : fits bs ≡ false → Err BadLength ≡ shape_of (parse bs)
    unfolding parse
    no_fit h = sym (rw (v, h))

    pub too_short : length bs < 23 → Err BadLength ≡ shape_of (parse bs)
    unfolding fits
    too_short h = no_fit (rw (lt-leb (polys_at bs) (length bs) (omega arith)) (cond_false (eqb (5 + word (drop 1 bs)) (length bs))))

    pub wrong_length : (w : ℕ) → w ≡ word (drop 1 bs) → (w ≡ length bs - 5 → ⊥) → Err BadLength ≡ shape_of (parse bs)
    unfolding fits
    wrong_length w e h = no_fit (rw (ne_eqb (5 + word (drop 1 bs)) (length bs) (λ q. h (omega (arith, e)))))

    module _ (l : ℕ) (a : l ≡ count_of_layers bs) where
      pub claims_over : length bs < 23 + 64 * l → Err BadLength ≡ shape_of (parse bs)
      unfolding fits
      claims_over h = no_fit (rw (lt-leb (polys_at bs) (length bs) (omega (arith, a))) (cond_false (eqb (5 + word (drop 1 bs)) (length bs))))

      module _ (e : ℕ) (b : e ≡ get_or bs (23 + 64 * l - 1) 0) (r : Bool) (f : r ≡ entries_fit e (drop (23 + 64 * l) bs)) where
        entry_count_is : e ≡ count_of_entries bs
        entry_count_is = let z : 23 + 64 * l - 1 ≡ 22 + 64 * count_of_layers bs = omega (arith, a) in b ∙ ap (λ k. get_or bs k 0) z

        fit_is : r ≡ entries_fit (count_of_entries bs) (drop (polys_at bs) bs)
        fit_is = f ∙ ap₂ (λ (k n : ℕ). entries_fit k (drop (23 + 64 * n) bs)) entry_count_is a

        pub entries_over : r ≡ false → Err BadLength ≡ shape_of (parse bs)
        unfolding fits
        entries_over h = no_fit (rw (sym fit_is ∙ h) (cond_twice (eqb (5 + word (drop 1 bs)) (length bs)) (leb (polys_at bs) (length bs))))

        pub all_fits : r ≡ true → 23 ≤ length bs → (w : ℕ) → w ≡ word (drop 1 bs) → w ≡ length bs - 5 → 23 + 64 * l ≤ length bs
            → Ok (record { layers = l; entries = e; polys = 23 + 64 * l }) ≡ shape_of (parse bs)
        all_fits t h w x y m =
            let p = reads_parse bs (record { version = v; stored = omega (arith, x, y); room = omega (arith, a); fit = sym fit_is ∙ t }) in
            let c = a ∙ sym (claims_count (count_of_layers bs) (drop 22 bs)) in
            let n = entry_count_is ∙ sym (entries_count (count_of_entries bs) (drop (polys_at bs) bs)) in
            ap Ok (λ i. record { layers = c i; entries = n i; polys = 23 + 64 * c i }) ∙ sym (ap shape_of p)

-- elements read one by one
pub claims_read : (bs : List ℕ) (at : ℕ) (a b c d : Ext) → a ≡ elem (drop at bs) → b ≡ elem (drop (at + 16) bs) → c ≡ elem (drop (at + 32) bs) → d ≡ elem (drop (at + 48) bs)
    → ◌≡◌ {A = Claims Ext} (record { p0 = a; q0 = b; p1 = c; q1 = d }) (claims_of (drop at bs))
claims_read bs at a b c d p q r t =
    let q' = q ∙ ap elem (sym (drop-drop 16 at bs)) in
    let r' = r ∙ ap elem (sym (drop-drop 32 at bs)) in
    let t' = t ∙ ap elem (sym (drop-drop 48 at bs)) in
    λ i. record { p0 = p i; q0 = q' i; p1 = r' i; q1 = t' i }

pub cubic_read : (bs : List ℕ) (at : ℕ) (a b c : Ext) → a ≡ elem (drop at bs) → b ≡ elem (drop (at + 16) bs) → c ≡ elem (drop (at + 32) bs)
    → ◌≡◌ {A = Cubic Ext} (record { at1 = a; at2 = b; at3 = c }) (cubic_of (drop at bs))
cubic_read bs at a b c p q r =
    let q' = q ∙ ap elem (sym (drop-drop 16 at bs)) in
    let r' = r ∙ ap elem (sym (drop-drop 32 at bs)) in
    λ i. record { at1 = p i; at2 = q' i; at3 = r' i }
