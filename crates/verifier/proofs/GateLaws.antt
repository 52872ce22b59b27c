-- Each way through the checks is the first test that is met, and where none is, what the run asks holds.
-- Assumes nothing.
use Rattle.std.specs.Prelude.{Result, Ok, Err, Some, None}
use mathlib.Core.Path.{◌≡◌, refl, sym, ◌∙◌, ap, ap₂, subst}
use mathlib.Core.Bool.{Bool, true, false, cond, not, ◌&&◌, ◌||◌, false≢true}
use mathlib.Core.List.{List, ◌∷◌}
use Prim.Native.Nat.{ℕ, ◌*◌, ◌<◌, ◌≤◌}
use native.Mathlib.Omega.{arith}
use borrow.Author.Tests.{lt-ltb, le-ltb, ltb-false, not-true, not-false}
use lib.Dec.{eqb, ltb}
use lib.ListN.{length, take, drop}
use Rattle.field.specs.declared.Ext.{Ext}
use Rattle.gkr.specs.Run.{Proof}
use Rattle.refusal.specs.Limits.{max_rounds}
use Rattle.refusal.specs.declared.Refusal.{Refusal}
use Rattle.refusal.specs.declared.Refusal.TheVariants.{ShortChallenges, ShortRoom, BadWord, ZeroRounds, TooManyRounds, BadVersion, BadLength}
use Rattle.refusal.specs.declared.Words.TheVariants.{Proof as ProofWords, Challenges}
use Rattle.refusal.specs.Tests.{Test, Tested, passed, refused, test, first_of}
use Rattle.refusal.specs.TestLaws.{all_passed, passed_all}
use Rattle.sizes.specs.Sizes.{needed_words, log_room}
use Rattle.wire.specs.Words.{all_canonical, first_bad, bad_place}
use Rattle.wire.specs.PlaceLaws.{place_canonical, place_bad}
use Rattle.stored.specs.declared.Outline.{Outline}
use Rattle.stored.specs.Shapes.{shape_of}
use Rattle.stored.specs.Layout.{proof_words}
use Rattle.stored.specs.Parse.{bad_version, bad_length, parsed, known, sized, fits, parse, proof_of}
use Rattle.stored.specs.ParseLaws.{Reads, Shaped, good_shape, reads_fits}
use Rattle.verifier.specs.Verified.{Asked, needed, rootless, tests}
use Rattle.verifier.specs.Gates.{words_gate, Opened, Gated}

-- ---- the words: of the proof, then of the challenges
module _ (bs : List ℕ) (o : Outline) (needs : List ℕ) where
  pub words_shut : (b : ℕ) → Some b ≡ bad_place (proof_words (proof_of bs)) → Err (BadWord b ProofWords) ≡ words_gate bs o needs
  words_shut b e = let t = place_bad (proof_words (proof_of bs)) b e in ap (λ x. Err (BadWord x ProofWords)) t.0 ∙ rw t.1

  module _ (e : None ≡ bad_place (proof_words (proof_of bs))) where
    good : all_canonical (proof_words (proof_of bs)) ≡ true
    good = place_canonical (proof_words (proof_of bs)) e

    pub needs_shut : (c : ℕ) → Some c ≡ bad_place needs → Err (BadWord c Challenges) ≡ words_gate bs o needs
    needs_shut c f = let t = place_bad needs c f in ap (λ x. Err (BadWord x Challenges)) t.0 ∙ rw (good, t.1)

    pub words_open : None ≡ bad_place needs → Ok o ≡ words_gate bs o needs
    words_open f = rw (good, place_canonical needs f)

-- ---- the shape, of a version that is read
shape_shut : (version fit size : Bool) (π : Proof Ext) (e : Refusal) (ts : List Test) → version ≡ true → Err e ≡ shape_of (cond version (cond fit (parsed size π) bad_length) bad_version)
    → first_of (test (not fit) BadLength ∷ ts) ≡ refused e
unfolding first_of
shape_shut false fit size π e ts v h = absurd (false≢true v)
shape_shut true false size π e ts v h = let q : BadLength ≡ e = cc in ap refused q
shape_shut true true size π e ts v h = absurd (let z : ◌≡◌ {A = ℕ} 0 1 = cc in omega arith)

pub shaped_by : (bs : List ℕ) (r : Result Outline Refusal) (o : Outline) → r ≡ shape_of (parse bs) → r ≡ Ok o → Shaped bs o
shaped_by bs r o a b = good_shape bs o (sym b ∙ a)

-- ---- the order
module _ (a : Asked) (points logs : ℕ) where
  abbrev n : ℕ
  n = a.rounds

  abbrev way : Tested
  way = first_of (tests a points logs)

  pub way_10 : (x : Bool) → x ≡ (eqb n 0 && not a.modes.empty) → x ≡ true → way ≡ refused ZeroRounds
  unfolding first_of
  way_10 x e h = rw (sym e ∙ h)

  module _ (x : Bool) (xe : x ≡ (eqb n 0 && not a.modes.empty)) (h1 : x ≡ false) where
    pub way_11 : max_rounds < n → way ≡ refused TooManyRounds
    unfolding first_of
    way_11 h = rw (sym xe ∙ h1, lt-ltb max_rounds n h)

    module _ (h2 : n ≤ max_rounds) (k : ℕ) (ke : k ≡ needed_words a.modes.drawn n) where
      few_rounds : way ≡ first_of (drop 2 (tests a points logs))
      unfolding first_of
      few_rounds = rw (sym xe ∙ h1, le-ltb max_rounds n h2)

      pub way_4 : length a.challenges < k → way ≡ refused ShortChallenges
      unfolding first_of
      way_4 h = few_rounds ∙ rw (lt-ltb (length a.challenges) (needed_words a.modes.drawn n) (subst (λ m. length a.challenges < m) ke h))

      module _ (h3 : k ≤ length a.challenges) where
        enough : way ≡ first_of (drop 3 (tests a points logs))
        unfolding first_of
        enough = few_rounds ∙ rw (le-ltb (length a.challenges) (needed_words a.modes.drawn n) (subst (λ m. m ≤ length a.challenges) ke h3))

        module _ (v : Bool) (ve : v ≡ known a.proof) where
          pub way_12 : not v ≡ true → way ≡ refused BadVersion
          unfolding first_of
          way_12 h = enough ∙ rw (sym ve ∙ not-true v h)

          module _ (h4 : not v ≡ false) where
            is_known : known a.proof ≡ true
            is_known = sym ve ∙ not-false v h4

            versioned : way ≡ first_of (drop 4 (tests a points logs))
            unfolding first_of
            versioned = enough ∙ rw is_known

            pub way_5 : points < 4 * n → way ≡ refused ShortRoom
            unfolding first_of
            way_5 h = versioned ∙ rw (lt-ltb points (4 * n) h)

            module _ (h5 : 4 * n ≤ points) (b : Bool) (be : b ≡ sized a.proof) (l : ℕ) (le : l ≡ log_room true b n) where
              room_is : l ≡ log_room true (sized a.proof) n
              room_is = le ∙ ap (λ s. log_room true s n) be

              pub way_5_log : logs < l → way ≡ refused ShortRoom
              unfolding first_of
              way_5_log h = versioned ∙ rw (le-ltb points (4 * n) h5, lt-ltb logs (log_room true (sized a.proof) n) (subst (λ m. logs < m) room_is h))

              module _ (h6 : l ≤ logs) where
                roomy : way ≡ first_of (drop 5 (tests a points logs))
                unfolding first_of
                roomy = versioned ∙ rw (le-ltb points (4 * n) h5, le-ltb logs (log_room true (sized a.proof) n) (subst (λ m. m ≤ logs) room_is h6))

                pub way_13 : (r : Result Outline Refusal) (e : Refusal) → r ≡ shape_of (parse a.proof) → r ≡ Err e → way ≡ refused e
                unfolding parse
                way_13 r e p q = roomy ∙ shape_shut (known a.proof) (fits a.proof) (sized a.proof) (proof_of a.proof) e (drop 6 (tests a points logs)) is_known (sym q ∙ p)

                module _ (o : Outline) (s : Shaped a.proof o) where
                  read : way ≡ first_of (drop 6 (tests a points logs))
                  unfolding first_of
                  read = roomy ∙ rw (reads_fits a.proof s.reads)

                  by_words : a.modes.live ≡ false → (x y : Bool) (g : Result Outline Refusal) → all_canonical (proof_words (proof_of a.proof)) ≡ x → all_canonical (needed a) ≡ y
                      → g ≡ cond x (cond y (Ok o) (Err (BadWord (first_bad (needed a)) Challenges))) (Err (BadWord (first_bad (proof_words (proof_of a.proof))) ProofWords)) → Gated a points logs g
                  unfolding first_of
                  by_words m true true g p q e = subst (Gated a points logs) (sym e) (record { passes = read ∙ rw (p, q, m); shaped = s })
                  by_words m true false g p q e = subst (Gated a points logs) (sym e) (read ∙ rw (p, q))
                  by_words m false y g p q e = subst (Gated a points logs) (sym e) (read ∙ rw p)

                  pub way_6 : a.modes.live ≡ false → (g : Result Outline Refusal) → g ≡ words_gate a.proof o (take k a.challenges) → Gated a points logs g
                  way_6 m g e = by_words m (all_canonical (proof_words (proof_of a.proof))) (all_canonical (needed a)) g refl refl (e ∙ ap (λ m. words_gate a.proof o (take m a.challenges)) ke)

-- ---- what holds where no test is met
neither : (x y : Bool) → (x || y) ≡ false → (x ≡ false) × (y ≡ false)
neither true y h = absurd (let z : ◌≡◌ {A = ℕ} 0 1 = cc in omega arith)
neither false y h = (refl, h)

pub record Passes (a : Asked) (points logs : ℕ) : Type 0 where
  pub some : (eqb a.rounds 0 && not a.modes.empty) ≡ false
  pub few : a.rounds ≤ max_rounds
  pub chals : needed_words a.modes.drawn a.rounds ≤ length a.challenges
  pub room : 4 * a.rounds ≤ points
  pub log_room_fits : log_room true (sized a.proof) a.rounds ≤ logs
  pub canon : all_canonical (proof_words (proof_of a.proof)) ≡ true
  pub clean : all_canonical (needed a) ≡ true

pub passes : {a : Asked} {points logs : ℕ} {o : Outline} → Opened a points logs o → Passes a points logs
passes {a} {points} {logs} g =
    let m = passed_all (tests a points logs) g.passes in
    let r = neither (ltb points (4 * a.rounds)) (ltb logs (log_room true (sized a.proof) a.rounds)) m.1.1.1.1.0 in
    record {
      some = m.0;
      few = ltb-false max_rounds a.rounds m.1.0;
      chals = ltb-false (length a.challenges) (needed_words a.modes.drawn a.rounds) m.1.1.0;
      room = ltb-false points (4 * a.rounds) r.0;
      log_room_fits = ltb-false logs (log_room true (sized a.proof) a.rounds) r.1;
      canon = not-false _ m.1.1.1.1.1.1.0;
      clean = not-false _ m.1.1.1.1.1.1.1.0;
    }

pub opens_all : (a : Asked) (points logs : ℕ) → Reads a.proof → Passes a points logs → (a.modes.live && rootless a.proof a.rounds) ≡ false
    → first_of (tests a points logs) ≡ passed
opens_all a points logs r h root =
    all_passed (tests a points logs) (
      h.some,
      (
        le-ltb max_rounds a.rounds h.few,
        (
          le-ltb (length a.challenges) (needed_words a.modes.drawn a.rounds) h.chals,
          (
            ap not r.version,
            (
              ap₂ ◌||◌ (le-ltb points (4 * a.rounds) h.room) (le-ltb logs (log_room true (sized a.proof) a.rounds) h.log_room_fits),
              (
                ap not (reads_fits a.proof r),
                (
                  ap not h.canon,
                  (
                    ap not h.clean,
                    (root, tt),
                  ),
                ),
              ),
            ),
          ),
        ),
      ),
    )
