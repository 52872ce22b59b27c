-- Words written into the log, one step after the other.
-- Assumes nothing.
use mathlib.Core.Path.{◌≡◌, refl, sym, ◌∙◌, ap, subst}
use mathlib.Core.Bool.{Bool, true, false, cond}
use mathlib.Core.List.{List, [], ◌∷◌, ◌++◌, map}
use Prim.Native.Nat.{ℕ, suc, ◌+◌, ◌<◌, ◌≤◌}
use native.Mathlib.Nat.{mod-eq_of_lt}
use native.Mathlib.Omega.{arith}
use lib.ListN.{length, take, drop, set, length-append, length-set}
use lib.Seq.{sets-eq, take_at, drop_at, length-take-le, drop-drop}
use native.Mathlib.Numerals.{add-one}
use Rattle.field.specs.Base.{P, of}
use Rattle.field.specs.BaseRing.{val_of}
use Rattle.field.specs.Ext as E
use Rattle.gkr.specs.Transcripts.{Words, mark, Source}
use Rattle.field.specs.declared.Ext.{Ext}
use Rattle.field.specs.Element.{dec, words, Canon, Is}
use Rattle.field.specs.Cells.{Clean}
use Rattle.shake.specs.declared.Sponge.{Sponge}
use Rattle.shake.specs.Drawn.{message, Holds}
use Rattle.shake.proofs.SpongeLaws.{holds_grown}
use Rattle.transcript.specs.Source.{label, source}
use Rattle.transcript.specs.Log.{Absorbed, Drawing, Enough, Observing, State, Steps, log_of, source_of}
use Rattle.transcript.specs.Bound.{bound}

abbrev pub four : List ℕ → ℕ → ℕ → ℕ → ℕ → ℕ → List ℕ
four l put a b c d = set (set (set (set l put a) (put + 1) b) (put + 2) c) (put + 3) d

pub four_length : (l : List ℕ) (put a b c d : ℕ) → length (four l put a b c d) ≡ length l
four_length l put a b c d = simp length-set refl

module _ (l : List ℕ) (put a b c d : ℕ) (h : put + 4 ≤ length l) where
  abbrev vs : List ℕ
  vs = a ∷ b ∷ c ∷ d ∷ []

  written : four l put a b c d ≡ (take put l ++ vs) ++ drop (put + 4) l
  written =
      let e1 : put + 1 ≡ suc put = omega arith in
      let e2 : put + 2 ≡ suc (suc put) = omega arith in
      let e3 : put + 3 ≡ suc (suc (suc put)) = omega arith in
      rw (e1, e2, e3) (sets-eq vs l put h)

  front : length (take put l ++ vs) ≡ put + 4
  front = length-append (take put l) vs ∙ ap (λ n. n + 4) (length-take-le put l (omega arith))

  pub four_take : take (put + 4) (four l put a b c d) ≡ take put l ++ vs
  four_take = ap (take (put + 4)) written ∙ take_at (take put l ++ vs) (drop (put + 4) l) (put + 4) front

  pub four_drop : drop (put + 4) (four l put a b c d) ≡ drop (put + 4) l
  four_drop = ap (drop (put + 4)) written ∙ drop_at (take put l ++ vs) (drop (put + 4) l) (put + 4) front

  -- what a sponge has taken in of the log so far it has taken in of the longer one
  pub four_grown : (s : Sponge) → Holds s (message label (take put l)) → Holds s (message label (take (put + 4) (four l put a b c d)))
  four_grown s k = subst (λ (w : List ℕ). Holds s (message label w)) (sym four_take) (holds_grown label (take put l) vs k)

pub words_of : (e : Ext) (x : E.Ext) → Is e x → words x ≡ e.c0 ∷ e.c1 ∷ e.c2 ∷ e.c3 ∷ []
unfolding E.ext
words_of e x h =
    ap words (sym h.value)
    ∙ (λ i. word e.c0 h.canon.c0 i ∷ word e.c1 h.canon.c1 i ∷ word e.c2 h.canon.c2 i ∷ word e.c3 h.canon.c3 i ∷ [])
  where
    word : (n : ℕ) → n < P → (of n).val ≡ n
    word n l = val_of n ∙ mod-eq_of_lt l

-- a state with the log's buffer and its place as they are after four words
abbrev with_four : State → (used a b c d : ℕ) → Sponge → State
with_four s used a b c d p = record { buffer = four s.buffer s.put a b c d; put = s.put + 4; used = used; sponge = p; drawn = s.drawn; challenges = s.challenges }

pub observed : (s : State) (e : Ext) → s.put + 4 ≤ length s.buffer → Canon e → Steps s (with_four s s.used e.c0 e.c1 e.c2 e.c3 s.sponge) 4 0 (Observing.observe (dec e) (log_of s))
observed s e h k = record {
  room = four_length s.buffer s.put e.c0 e.c1 e.c2 e.c3;
  put = refl;
  used = omega arith;
  drawn = refl;
  challenges = refl;
  log = λ i. record { log = (four_take s.buffer s.put e.c0 e.c1 e.c2 e.c3 h ∙ ap (λ w. take s.put s.buffer ++ w) (sym (words_of e (dec e) (record { canon = k; value = refl })))) i; used = s.used };
  rest = four_drop s.buffer s.put e.c0 e.c1 e.c2 e.c3 h;
  absorbed = four_grown s.buffer s.put e.c0 e.c1 e.c2 e.c3 h s.sponge;
}

-- a challenge is written, and the sponge p has then taken in blocks of the log with it
pub sampled : (s : State) (ch : Source E.Ext) (e : Ext) (p : Sponge) → s.put + 4 ≤ length s.buffer → Is e (ch (log_of s))
    → (Absorbed s → Holds p (message label (take (s.put + 4) (four s.buffer s.put (mark e.c0) (mark e.c1) (mark e.c2) (mark e.c3)))))
    → Steps s (with_four s (s.used + 1) (mark e.c0) (mark e.c1) (mark e.c2) (mark e.c3) p) 4 1 ((Drawing ch).drawn (log_of s))
sampled s ch e p h i g =
    let a = mark e.c0 in
    let b = mark e.c1 in
    let c = mark e.c2 in
    let d = mark e.c3 in
    record {
      room = four_length s.buffer s.put a b c d;
      put = refl;
      used = refl;
      drawn = refl;
      challenges = refl;
      log = λ j. record { log = (four_take s.buffer s.put a b c d h ∙ ap (λ w. take s.put s.buffer ++ map mark w) (sym (words_of e _ i))) j; used = add-one s.used j };
      rest = four_drop s.buffer s.put a b c d h;
      absorbed = g;
    }

-- one after the other
pub then : {s₀ s₁ s₂ : State} {n m n' m' : ℕ} {t t' : Words} → Steps s₀ s₁ n m t → Steps s₁ s₂ n' m' t' → Steps s₀ s₂ (n + n') (m + m') t'
then {s₀} {s₁} {s₂} {n' = n'} a b =
    let e : s₂.put ≡ s₁.put + n' = b.put in
    record {
      room = b.room ∙ a.room;
      put = omega (arith, a.put, b.put);
      used = omega (arith, a.used, b.used);
      drawn = b.drawn ∙ a.drawn;
      challenges = b.challenges ∙ a.challenges;
      log = b.log;
      rest =
          b.rest ∙ ap (λ k. drop k s₁.buffer) e ∙ sym (drop-drop n' s₁.put s₁.buffer) ∙ ap (drop n') a.rest ∙ drop-drop n' s₁.put s₀.buffer ∙ ap (λ k. drop k s₀.buffer) (sym e);
      absorbed = λ h. b.absorbed (a.absorbed h);
    }

-- the same with the log told otherwise
pub retold : {s s' : State} {n m n' m' : ℕ} {t t' : Words} → n ≡ n' → m ≡ m' → t ≡ t' → Steps s s' n m t → Steps s s' n' m' t'
retold en em e a = record {
  room = a.room;
  put = omega (arith, a.put, en);
  used = omega (arith, a.used, em);
  drawn = a.drawn;
  challenges = a.challenges;
  log = a.log ∙ e;
  rest = a.rest;
  absorbed = a.absorbed;
}

pub no_steps : (s : State) → Steps s s 0 0 (log_of s)
no_steps s = record { room = refl; put = omega arith; used = omega arith; drawn = refl; challenges = refl; log = refl; rest = refl; absorbed = λ h. h }

-- the source of challenges is the same one
pub same_source : {s s' : State} {n m : ℕ} {t : Words} → Steps s s' n m t → source_of s' ≡ source_of s
same_source a = λ i. source (a.drawn i) (a.challenges i)

-- ---- challenges that can still be had

pub enough_fewer : {s : State} (k : ℕ) {j : ℕ} → j ≤ k → Enough s k → Enough s j
enough_fewer k h e = record { room = λ f. omega (arith, e.room f); clean = e.clean; counted = e.counted; absorbed = e.absorbed }

-- after steps that took m of them, each into the log
pub enough_after : {s s' : State} {n m : ℕ} {t : Words} (k : ℕ) {j : ℕ} → m ≤ n → m + j ≤ k → Steps s s' n m t → Enough s k → Enough s' j
enough_after k i h a e = record {
  room = λ f. omega (arith, e.room (sym a.drawn ∙ f), a.used, ap length a.challenges);
  clean = λ f. subst Clean (sym a.challenges) (e.clean (sym a.drawn ∙ f));
  counted = omega (arith, e.counted, a.put, a.used);
  absorbed = a.absorbed e.absorbed;
}

-- THE SIZE, observed or not

pub bound_not : (s : State) (b : Bool) (n : ℕ) → b ≡ false → Steps s s (cond b 4 0) 0 (bound b n (log_of s))
bound_not s b n h = rw h (no_steps s)

pub bound_so : {s s' : State} (b : Bool) (n : ℕ) → b ≡ true → Steps s s' 4 0 (Observing.observe (E.ext n 0 0 0) (log_of s)) → Steps s s' (cond b 4 0) 0 (bound b n (log_of s))
bound_so b n h a = rw h a

pub rounds_canon : (n : ℕ) → n < P → Canon (record { c0 = n; c1 = 0; c2 = 0; c3 = 0 })
rounds_canon n h = record { c0 = h; c1 = omega arith; c2 = omega arith; c3 = omega arith }
