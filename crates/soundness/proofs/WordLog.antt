-- A log of words keeps all elements, observed and sampled. So over a log of words, with challenges from any source: a bad challenge is a value of the source at a log
-- that fixes the few values which are bad there.
-- Assumes nothing.
use Rattle.std.specs.Prelude.{ℕ, zero, suc, ◌+◌, ◌%◌, ◌^◌, ◌<◌, ◌≡◌, refl, ◌⊎◌, List, [], ◌∷◌, ◌++◌, map, length, drop}
use Rattle.std.proofs.Common.{sym, ◌∙◌, ap, append-nil, append_assoc, arith, drop_at}
use Rattle.field.specs.Base.{P, F, of}
use Rattle.field.specs.BaseRing.{of_val, val_lt}
use Rattle.field.specs.Ext.{Ext}
use Rattle.field.specs.ExtRing.{same_true, ext_path}
use Rattle.field.specs.Extension.{Extension}
use Rattle.field.specs.Element.{words}
use Rattle.gkr.specs.Run.{Frac, Proof}
use Rattle.gkr.specs.Gkr
use Rattle.gkr.specs.Transcripts.{mark, Words, Source, drawing}
use Rattle.domain.proofs.Extension.{ext_domain}
use Rattle.soundness.specs.FewLaws.{onto_right}
use Rattle.soundness.specs.Steps.{Step, bad}
use Rattle.soundness.specs.Challenges.{Accepts, RootIs}
use Rattle.soundness.specs.Kept.{Keeps}
use Rattle.soundness.proofs.FromLog as FromLog
use Rattle.soundness.specs.WordLog.{Fours, plain, element, elements, read, DrewAt}

fours_append : (ws : List ℕ) (a b c d : ℕ) → Fours ws → Fours (ws ++ (a ∷ b ∷ c ∷ d ∷ []))
fours_append [] a b c d h = tt
fours_append (x ∷ []) a b c d h = absurd h
fours_append (x ∷ y ∷ []) a b c d h = absurd h
fours_append (x ∷ y ∷ z ∷ []) a b c d h = absurd h
fours_append (x ∷ y ∷ z ∷ w ∷ ws) a b c d h = fours_append ws a b c d h

elements_append : (ws : List ℕ) (a b c d : ℕ) → Fours ws → elements (ws ++ (a ∷ b ∷ c ∷ d ∷ [])) ≡ elements ws ++ (element a b c d ∷ [])
unfolding elements
elements_append [] a b c d h = refl
elements_append (x ∷ []) a b c d h = absurd h
elements_append (x ∷ y ∷ []) a b c d h = absurd h
elements_append (x ∷ y ∷ z ∷ []) a b c d h = absurd h
elements_append (x ∷ y ∷ z ∷ w ∷ ws) a b c d h = ap (λ l. element x y z w ∷ l) (elements_append ws a b c d h)

-- a word observed, and a word sampled
small : (n : ℕ) → n < P → n % 2 ^ 31 ≡ n
small n h = omega arith

unmarked : (n : ℕ) → n < P → (2 ^ 31 + n) % 2 ^ 31 ≡ n
unmarked n h = omega arith

observed_word : (a : F) → plain a.val ≡ a
observed_word a = ap of (small a.val (val_lt a)) ∙ of_val a

sampled_word : (a : F) → plain (mark a.val) ≡ a
sampled_word a = ap of (unmarked a.val (val_lt a)) ∙ of_val a

read_past : (front : List ℕ) (t : Words) (ws : List ℕ) → t.log ≡ front ++ ws → read (length front) t ≡ elements ws
unfolding read
read_past front t ws e = ap (λ l. elements (drop (length front) l)) e ∙ ap elements (drop_at front ws (length front) refl)

-- a log that has the words of `front` before all elements
pub words_kept : (source : Source Ext) (front : List ℕ) → Keeps (drawing words source)
words_kept source front = record {
  Whole = Whole;
  read = read (length front);
  observes = λ x t h. grown t ((drawing words source).observe x t) x h _ _ _ _ refl (observed_element x);
  draws = λ t h. grown t ((drawing words source).drawn t) (source t) h _ _ _ _ refl (sampled_element (source t));
  Past = λ u t. (rest : List ℕ) × (t.log ≡ u.log ++ rest);
  itself = λ t. ([], sym (append-nil t.log));
  before_observing = λ x u t p. (words x ++ p.0, p.1 ∙ append_assoc u.log (words x) p.0);
  before_drawing = λ u t p. (map mark (words (source u)) ++ p.0, p.1 ∙ append_assoc u.log (map mark (words (source u))) p.0);
}
  where
    Whole : Words → Type 0
    Whole t = (ws : List ℕ) × (t.log ≡ front ++ ws) × Fours ws

    grown : (t u : Words) (x : Ext) → Whole t → (a b c d : ℕ) → u.log ≡ t.log ++ (a ∷ b ∷ c ∷ d ∷ []) → element a b c d ≡ x
        → Whole u × (read (length front) u ≡ read (length front) t ++ (x ∷ []))
    grown t u x h a b c d e is =
        let vs = a ∷ b ∷ c ∷ d ∷ [] in
        let log : u.log ≡ front ++ (h.0 ++ vs) = e ∙ ap (λ l. l ++ vs) h.1 ∙ append_assoc front h.0 vs in (
          (h.0 ++ vs, log, fours_append h.0 a b c d h.2),
          read_past front u (h.0 ++ vs) log ∙ elements_append h.0 a b c d h.2 ∙ ap (λ y. elements h.0 ++ (y ∷ [])) is
              ∙ ap (λ l. l ++ (x ∷ [])) (sym (read_past front t h.0 h.1)),
        )

    observed_element : (x : Ext) → element x.c0.val x.c1.val x.c2.val x.c3.val ≡ x
    observed_element x = ext_path (observed_word x.c0) (observed_word x.c1) (observed_word x.c2) (observed_word x.c3)

    sampled_element : (x : Ext) → element (mark x.c0.val) (mark x.c1.val) (mark x.c2.val) (mark x.c3.val) ≡ x
    sampled_element x = ext_path (sampled_word x.c0) (sampled_word x.c1) (sampled_word x.c2) (sampled_word x.c3)

-- what is on the table at a log of a run of n rounds that began at a log of k words: a function of the log alone
pub at_log : (k n : ℕ) (u : Words) → Step Ext
at_log k zero u = FromLog.table Extension 0 (read k u)
at_log k (suc m) u = FromLog.table Extension m (read k u)

-- CHALLENGES THAT ARE ANY FUNCTION OF THE LOG: the root is (0, q0), or at some log u of the run, which began at any log t, the function's value is among the few that are bad
-- at what u puts on the table past the words of t
pub source_sound : (source : Source Ext) (f : ℕ → Frac Ext) (m : ℕ) (π : Proof Ext) (t : Words)
    → let S = drawing words source in
    let w = Gkr.verify_gkr Extension S (suc m) π t in
    Accepts Extension S f w
    → RootIs Extension f (suc m) π.q0 ⊎ ((u : Words) × DrewAt source u (Gkr.log_after Extension S t w).log × bad Extension f (at_log (length t.log) (suc m) u) (source u))
unfolding words_kept at_log elements
source_sound source f m π t a =
    onto_right (FromLog.drawn_sound Extension ext_domain same_true (drawing words source) (words_kept source t.log) f m π t ([], begun, tt) (read_past t.log t [] begun) a)
    (λ k. (k.0, (k.1.0, k.1.1 ∙ append_assoc k.0.log (map mark (words (source k.0))) k.1.0), k.2))
  where
    begun : t.log ≡ t.log ++ []
    begun = sym (append-nil t.log)
