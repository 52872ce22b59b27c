-- What holds of all calls of the prover: isolation, what is left of a run, live mode, drawn challenges, what was used up. Each speaks of what a call writes: `proved` lays that over the buffers.
-- Assumes nothing.
use Rattle.std.specs.Prelude.{◌≡◌, Bool, true, false, List, [], ℕ, ◌*◌, ◌<◌, length, replicate, Err}
use Rattle.gkr.specs.Sizes.{challenges}
use Rattle.gkr.specs.TranscriptLaws.{sampled_words}
use Rattle.transcript.specs.Used.{used, unused}
use Rattle.refusal.specs.Tests.{passed, refused}
use Rattle.refusal.specs.declared.Refusal.{Refusal}
use Rattle.refusal.specs.declared.Refusal.TheVariants.{ShortChallenges, ZeroDenominator, NonZeroRootSum}
use Rattle.step.specs.declared.Frac.{Frac}
use Rattle.prover_tree.specs.Nodes.{node}
use Rattle.sizes.specs.Sizes.{row_count, rounds_of, log_room, work_room}
use Rattle.prover_gate.specs.declared.Rooms.{Rooms}
use Rattle.prover_gate.specs.Refusals.{Call, call, degenerate, first_refusal}
use Rattle.prover.specs.Proved.{Buffers, Outcome, lent, rooms_of, laid, untouched, fronts, proved, summed}

-- ISOLATION: over buffers that held different things, in rooms of equal lengths, the same answer and the same words
abbrev pub Isolation : Type 0
Isolation = (c : Call) (b b' : Buffers) → rooms_of b ≡ rooms_of b' → let f = fronts c (rooms_of b) in (proved c b ≡ laid f b) × (proved c b' ≡ laid f b')

-- WHAT IS LEFT of n rounds: the needed workspace is zero after done and after 8; a refusal writes nothing else
pub record Left (n : ℕ) (f : Outcome) : Type 0 where
  pub done : (k : ℕ) (s : Frac) → f.answer ≡ summed k s → f.buffers.work ≡ replicate (work_room k) 0
  pub eight : f.answer ≡ Err NonZeroRootSum → f.buffers ≡ lent [] [] [] (replicate (work_room n) 0)
  pub other : (e : Refusal) → (e ≡ NonZeroRootSum → ⊥) → f.answer ≡ Err e → f.buffers ≡ lent [] [] [] []

abbrev pub Wiping : Type 0
Wiping = (c : Call) (r : Rooms) → Left (rounds_of (row_count c.rows)) (fronts c r)

-- LIVE MODE

abbrev pub in_mode : (live : Bool) → Call → Call
in_mode live c = call c.rows (record { live = live; assert_zero = c.modes.assert_zero; drawn = c.modes.drawn; sized = c.modes.sized }) c.challenges

-- no row is over zero
abbrev pub Sound : List ℕ → Type 0
Sound rows = (i : ℕ) → i < row_count rows → degenerate (node rows i) ≡ false

-- row i is, and no lower one
pub record Lowest (rows : List ℕ) (i : ℕ) : Type 0 where
  pub there : i < row_count rows
  pub over_zero : degenerate (node rows i) ≡ true
  pub below : (j : ℕ) → j < i → degenerate (node rows j) ≡ false

-- live equals sandbox where the row check passes; else 1 to 6 come first, and then 7 with the lowest row; 7 is never the sandbox's
pub record LiveMode (c : Call) (r : Rooms) : Type 0 where
  pub equal : Sound c.rows → fronts (in_mode true c) r ≡ fronts (in_mode false c) r
  pub earlier : (e : Refusal) → first_refusal (in_mode false c) r ≡ refused e → fronts (in_mode true c) r ≡ untouched e
  pub lowest : (i : ℕ) → Lowest c.rows i → first_refusal (in_mode false c) r ≡ passed → fronts (in_mode true c) r ≡ untouched (ZeroDenominator i)
  pub sandbox : (i : ℕ) → (fronts (in_mode false c) r).answer ≡ Err (ZeroDenominator i) → ⊥

-- DRAWN CHALLENGES: those lent are not read, whatever they are and however many; 4 is never given
pub record DrawnMode (c : Call) (r : Rooms) : Type 0 where
  pub unread : c.modes.drawn ≡ true → (lent : List ℕ) → fronts (call c.rows c.modes lent) r ≡ fronts c r
  pub enough : c.modes.drawn ≡ true → (fronts c r).answer ≡ Err ShortChallenges → ⊥

-- WHAT WAS USED UP: so many words are logged, and four sampled ones among them for each challenge; those of a whole run where it is done, none for no rows; nothing where it is refused
pub record UsedUp (c : Call) (f : Outcome) : Type 0 where
  pub words : length f.buffers.log ≡ f.used.words
  pub sampled : length (sampled_words f.buffers.log) ≡ 4 * f.used.challenges
  pub done : (n : ℕ) (s : Frac) → f.answer ≡ summed n s → f.used ≡ used (challenges n) (log_room c.modes.assert_zero c.modes.sized n)
  pub none : (e : Refusal) → f.answer ≡ Err e → f.used ≡ unused

abbrev pub UsingUp : Type 0
UsingUp = (c : Call) (r : Rooms) → UsedUp c (fronts c r)
