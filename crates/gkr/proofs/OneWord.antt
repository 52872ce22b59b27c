-- Two logs that the verifier left over one proof, with challenges from two sources, and that differ in one word only: that word was sampled, in both.
-- Assumes nothing.
use Rattle.std.specs.Prelude.{◌≡◌, refl, Bool, true, false, ◌⊎◌, List, [], ◌∷◌, ◌++◌, map, ℕ, zero, suc, ◌+◌, ◌-◌, ◌^◌, ◌≤◌, ◌<◌, leb, length, get_or, set}
use Rattle.std.proofs.Common.{sym, ◌∙◌, ap, ⊎_elim, append_assoc, le_of_suc-le-suc, not-suc-le-zero, arith, get_or-append-add, get_or-set_same, get_or-set_other, ext_get_or, leb-true, leb-false}
use Rattle.ring.specs.Field.{Field}
use Rattle.gkr.specs.Run.{Transcript, Proof}
use Rattle.gkr.specs.Gkr
use Rattle.gkr.specs.Transcripts.{mark, Words, Source, drawing}
use Rattle.gkr.proofs.ReadLaws as Reads
use Rattle.gkr.proofs.Replays.{Layout}
use Rattle.gkr.proofs.Forks

-- TWO LISTS THAT GO ON FROM p WITH a AND WITH b, MARKED

marked_at : (a r : List ℕ) (k : ℕ) → k < length a → get_or (map mark a ++ r) k 0 ≡ mark (get_or a k 0)
marked_at [] r k h = absurd (not-suc-le-zero h)
marked_at (w ∷ a) r zero h = refl
marked_at (w ∷ a) r (suc k) h = marked_at a r k (le_of_suc-le-suc h)

past : (p a r L : List ℕ) → (p ++ map mark a) ++ r ≡ L → (k : ℕ) → k < length a → get_or L (length p + k) 0 ≡ mark (get_or a k 0)
past p a r L e k h = ap (λ l. get_or l (length p + k) 0) (sym e ∙ append_assoc p (map mark a) r) ∙ get_or-append-add p (map mark a ++ r) k 0 ∙ marked_at a r k h

-- the one place in which they differ, where the words x and y stand, is the k-th of a and of b
record Place (a b : List ℕ) (x y : ℕ) : Type 0 where
  k : ℕ
  here : x ≡ mark (get_or a k 0)
  there : y ≡ mark (get_or b k 0)

module _ (p a b r r' L : List ℕ) (i w : ℕ) (long : length a ≡ length b) (one : (p ++ map mark a) ++ r ≡ L) (other : (p ++ map mark b) ++ r' ≡ set L i w) where
  elsewhere : ((k : ℕ) → k < length a → ¬ (length p + k ≡ i)) → a ≡ b
  elsewhere away = ext_get_or 0 a b long at
    where
      at : (k : ℕ) → k < length a → get_or a k 0 ≡ get_or b k 0
      at k h = omega (arith, past p a r L one k h, get_or-set_other L i (length p + k) w 0 (away k h), past p b r' (set L i w) other k (omega (arith, h, long)))

  placed : ¬ (a ≡ b) → i < length L → Place a b (get_or L i 0) w
  placed differ inside = below (leb (length p) i) refl (leb (length p + length a) i) refl
    where
      below : (t : Bool) → leb (length p) i ≡ t → (u : Bool) → leb (length p + length a) i ≡ u → Place a b (get_or L i 0) w
      below false e u d = absurd (differ (elsewhere (λ k h q. omega (arith, h, q, leb-false (length p) i e))))
      below true e true d = absurd (differ (elsewhere (λ k h q. omega (arith, h, q, leb-true (length p + length a) i d))))
      below true e false d =
          let j = i - length p in
          let to : length p + j ≡ i = omega (arith, leb-true (length p) i e) in
          let h : j < length a = omega (arith, to, leb-false (length p + length a) i d) in
          record {
            k = j;
            here = ap (λ k. get_or L k 0) (sym to) ∙ past p a r L one j h;
            there = sym (get_or-set_same L i w 0 inside) ∙ ap (λ k. get_or (set L i w) k 0) (sym to) ∙ past p b r' (set L i w) other j (omega (arith, h, long));
          }

-- TWO RUNS

module _ (F : Field) (Y : Layout F.ring.carrier) (s s' : Source F.ring.carrier) (eq? : (x y : F.ring.carrier) → (x ≡ y) ⊎ ¬ (x ≡ y)) (bound : ℕ) (under : (x : F.ring.carrier) (k : ℕ) → get_or (Y.words x) k 0 < bound) where
  abbrev R : Type 0
  R = F.ring.carrier

  abbrev S : Transcript R
  S = drawing Y.words s

  abbrev S' : Transcript R
  S' = drawing Y.words s'

  -- elements of the same words are the same
  injective : (x y : R) → Y.words x ≡ Y.words y → x ≡ y
  injective x y e = sym (Y.found [] [] x 0 refl) ∙ ap (λ l. Y.at (l ++ []) 0) e ∙ Y.found [] [] y 0 refl

  -- both are words of a challenge, as they stand in a log
  abbrev Sampled : (w v : ℕ) → Type 0
  Sampled w v = (2 ^ 31 ≤ w) × (w < 2 ^ 31 + bound) × (2 ^ 31 ≤ v) × (v < 2 ^ 31 + bound)

  parted : (L : List ℕ) (i w : ℕ) → i < length L → Forks.Fork F Y.words s s' L (set L i w) → Sampled w (get_or L i 0)
  parted L i w inside f =
      let x = s f.at in
      let y = s' f.at in
      let g = placed f.at.log (Y.words x) (Y.words y) f.here.rest f.there.rest L i w (Y.four x ∙ sym (Y.four y)) f.here.whole f.there.whole (λ e. f.differ (injective x y e)) inside in
      let b = under x g.k in
      let b' = under y g.k in (omega (arith, g.there), omega (arith, g.there, b'), omega (arith, g.here), omega (arith, g.here, b))

  pub one_word : (n : ℕ) (π : Proof R) (t : Words) (L : List ℕ) (i w : ℕ)
      → (Gkr.log_after F S t (Gkr.verify_gkr F S n π t)).log ≡ L → (Gkr.log_after F S' t (Gkr.verify_gkr F S' n π t)).log ≡ set L i w
      → i < length L → ¬ (w ≡ get_or L i 0) → Sampled w (get_or L i 0)
  one_word n π t L i w left left' inside other =
      let v = Gkr.verify_gkr F S n π t in
      let v' = Gkr.verify_gkr F S' n π t in
      ⊎_elim
      (λ e. absurd (other (sym (get_or-set_same L i w 0 inside) ∙ ap (λ l. get_or l i 0) (sym left' ∙ ap (λ u. u.log) (sym (Reads.same_log F Y.words s s' t v v' e)) ∙ left))))
      (λ f. parted L i w inside (record { at = f.at; differ = f.differ; here = record { rest = f.here.rest; whole = f.here.whole ∙ left }; there = record { rest = f.there.rest; whole = f.there.whole ∙ left' } }))
      (Forks.forks F Y.words s s' eq? n π t)
