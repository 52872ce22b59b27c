-- What an accepted verdict says, from the soundness of the model; live mode by its refusal 27, and the rows by their evaluation.
-- Assumes nothing.
use Rattle.std.specs.Prelude.{Ok}
use mathlib.Core.Path.{◌≡◌, refl, sym, ◌∙◌, ap, subst}
use mathlib.Core.Bool.{true, false, cond}
use mathlib.Core.Logic.{◌⊎◌}
use mathlib.Core.List.{List, ◌++◌, map, append_assoc}
use Prim.Native.Nat.{ℕ, zero, suc, ◌-◌}
use native.Mathlib.Omega.{arith}
use lib.ListN.{length, drop, length-map}
use Rattle.field.specs.Ext as E
use Rattle.field.specs.Extension.{Extension}
use Rattle.field.specs.Element.{words}
use Rattle.gkr.specs.Run.{Frac, Proof}
use Rattle.gkr.specs.Transcripts.{mark, Words, Source}
use Rattle.gkr.specs.Gkr as Gkr
use Rattle.gkr.specs.Gkr.{accepted, zero_rounds, layer_count, poly_count, zero_check, root_check, subround_count, layer_check}
use Rattle.soundness.specs.FewLaws.{onto, onto_right}
use Rattle.soundness.specs.Steps.{bad}
use Rattle.soundness.specs.Challenges as Challenges
use Rattle.soundness.specs.Challenges.{Accepts, RootIs}
use Rattle.soundness.proofs.Shape.{accepted_lengths}
use Rattle.soundness.specs.Extension.{live_rows}
use Rattle.soundness.proofs.Extension.{accepted_sound as model_sound, three_bad}
use Rattle.soundness.specs.WordLog.{DrewAt}
use Rattle.soundness.proofs.WordLog.{at_log, source_sound}
use Rattle.transcript.specs.Log.{Drawing}
use Rattle.transcript.specs.BoundLaws.{bound_words}
use Rattle.refusal.specs.Fronts.{over}
use Rattle.refusal.specs.declared.Refusal.TheVariants.{ZeroRoot}
use Rattle.stored.specs.Parse.{count_of_layers, count_of_entries, sized, proof_of}
use Rattle.stored.specs.ParseLaws.{claims_count, entries_count}
use Rattle.verifier_round.specs.declared.Claims.{Claims}
use Rattle.verifier_round.specs.Verdicts.{Model, logged_by}
use Rattle.verifier.specs.Verified.{Asked, Lent, source_of, verified}
use Rattle.verifier.specs.Companions.{in_mode, ZeroRooted}
use Rattle.verifier.proofs.Modes.{live_verifying}
use Rattle.verdict_sound.specs.Says.{stated, Matches, AcceptedSound, AcceptedLive, Table, BadInLog, DrawnSound}
use Rattle.verdict_sound.proofs.Runs.{not_accepted, opened, begun, log_left, run_accepts}

-- OF n ROUNDS, over any source and proof, begun at any log

-- an accepting run leaves a log of its own, whatever log it began at
accepted_log : (ch : Source E.Ext) (f : ℕ → Frac E.Ext) (t : Words) (w : Model ch) → Accepts Extension (Drawing ch) f w → (Gkr.log_after Extension (Drawing ch) t w).log ≡ logged_by ch w
accepted_log ch f t (accepted v xi u) g = refl
accepted_log ch f t zero_rounds g = absurd g
accepted_log ch f t (layer_count expected actual) g = absurd g
accepted_log ch f t (poly_count expected actual) g = absurd g
accepted_log ch f t (zero_check actual u) g = absurd g
accepted_log ch f t (root_check expected actual u) g = absurd g
accepted_log ch f t (subround_count round expected actual u) g = absurd g
accepted_log ch f t (layer_check round expected actual u) g = absurd g

module _ (ch : Source E.Ext) (π : Proof E.Ext) (t : Words) (f : ℕ → Frac E.Ext) where
  abbrev Run : (n : ℕ) → Type 0
  Run n = Accepts Extension (Drawing ch) f (Gkr.verify_gkr Extension (Drawing ch) n π t)

  run_sound : (n : ℕ) → Run n → RootIs Extension f n π.q0 ⊎ Challenges.Unlucky Extension (Drawing ch) f π t
  unfolding Gkr.verify_gkr
  run_sound zero g = absurd g
  run_sound (suc m) g = model_sound (Drawing ch) f m π t g

  run_drawn : (n k : ℕ) → length t.log ≡ k → Run n
      → RootIs Extension f n π.q0 ⊎ ((u : Words) × DrewAt ch u (logged_by ch (Gkr.verify_gkr Extension (Drawing ch) n π t)) × bad Extension f (at_log k n u) (ch u))
  unfolding Gkr.verify_gkr
  run_drawn zero k e g = absurd g
  run_drawn (suc m) k e g =
      let w = Gkr.verify_gkr Extension (Drawing ch) (suc m) π t in
      onto_right (source_sound ch f m π t g) (λ d. (d.0, subst (DrewAt ch d.0) (accepted_log ch f t w g) d.1, subst (λ j. bad Extension f (at_log j (suc m) d.0) (ch d.0)) e d.2))

  run_counts : (n : ℕ) → Run n → (length π.claims ≡ n) × (length π.polys ≡ n - 1)
  unfolding Gkr.verify_gkr
  run_counts zero g = absurd g
  run_counts (suc m) g = let l = accepted_lengths Extension (Drawing ch) f m π t g in (l.0, l.1 ∙ less)
    where
      less : m ≡ suc m - 1
      less = omega arith

pub accepted_sound : AcceptedSound
accepted_sound a b f h = run_sound (source_of a) (stated a) (begun a) f a.rounds (run_accepts a b f h)

-- the run's log stands at the front of the buffer
drew_over : (ch : Source E.Ext) (u : Words) (log buffer : List ℕ) → DrewAt ch u log → DrewAt ch u (over log buffer)
drew_over ch u log buffer d =
    let c = map mark (words (ch u)) in
    let r = drop (length log) buffer in
    (d.0 ++ r, ap (λ l. l ++ r) d.1 ∙ append_assoc u.log (c ++ d.0) r ∙ ap (λ l. u.log ++ l) (append_assoc c d.0 r))

-- a proof that binds its size has four words before all elements of the run
read_table : Table
read_table sized n u = at_log (cond sized 4 0) n u

drawn_says : (a : Asked) (b : Lent) (f : ℕ → Frac E.Ext) → Matches a b f → RootIs Extension f a.rounds (stated a).q0 ⊎ BadInLog read_table a b f
unfolding read_table
drawn_says a b f h =
    onto_right (run_drawn (source_of a) (stated a) (begun a) f a.rounds _ (bound_words (sized a.proof) a.rounds) (run_accepts a b f h))
    (λ k. (k.0, subst (DrewAt (source_of a) k.0) (sym (log_left a b h.0 _ h.1)) (drew_over (source_of a) k.0 _ b.log k.1), k.2))

-- LIVE

-- both counts are those of the rounds
counts : (a : Asked) (b : Lent) (f : ℕ → Frac E.Ext) → Matches a b f → (count_of_layers a.proof ≡ a.rounds) × (count_of_entries a.proof ≡ a.rounds - 1)
counts a b f h =
    let c = run_counts (source_of a) (stated a) (begun a) f a.rounds (run_accepts a b f h) in (
      sym (claims_count (count_of_layers a.proof) _) ∙ sym (length-map (proof_of a.proof).claims _) ∙ c.0,
      sym (entries_count (count_of_entries a.proof) _) ∙ sym (length-map (proof_of a.proof).polys _) ∙ c.1,
    )

-- with q0 zero it were refused by 27
not_zero_rooted : (a : Asked) (b : Lent) (c : Claims) → a.modes.live ≡ true → (verified a b).answer ≡ Ok c → ¬ ZeroRooted a
not_zero_rooted a b c l h z =
    let live = subst (λ x. (verified (in_mode x a) b).answer ≡ Ok c) l h in
    let same = (live_verifying a b).equal (λ e. not_accepted ZeroRoot c (sym e ∙ live)) in
    let passes = opened (in_mode false a) b c (sym (ap (λ o. o.answer) same) ∙ live) in
    not_accepted ZeroRoot c (sym ((live_verifying a b).given.1 (passes, z)) ∙ live)

q0_not_zero : (a : Asked) (b : Lent) (f : ℕ → Frac E.Ext) → a.modes.live ≡ true → Matches a b f → ¬ ((stated a).q0 ≡ E.nil)
q0_not_zero a b f l h z = let c = counts a b f h in not_zero_rooted a b _ l h.1 (record { some = h.0; layers = c.0; entries = c.1; q0 = z })

pub accepted_live : AcceptedLive
accepted_live a b f l h = onto (accepted_sound a b f h) (live_rows f a.rounds (stated a).q0 (q0_not_zero a b f l h))

-- WHATEVER THE SOURCE

pub drawn_sound : DrawnSound
drawn_sound = record {
  table = read_table;
  few = λ f sized n u. three_bad f (read_table sized n u);
  sound = drawn_says;
  live = λ a b f l h. onto (drawn_says a b f h) (live_rows f a.rounds (stated a).q0 (q0_not_zero a b f l h));
}
