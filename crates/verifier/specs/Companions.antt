-- What stands beside `verified`: isolation, what a refusal leaves, live mode, drawn challenges, empty sheets, what was used up.
-- Assumes nothing.
use Rattle.std.specs.Prelude.{◌≡◌, Ok, Err, Bool, true, false, ◌↔◌, List, ℕ, ◌*◌, ◌-◌, ◌≤◌, length}
use Rattle.field.specs.Ext as E
use Rattle.gkr.specs.Sizes.{challenges}
use Rattle.sizes.specs.Sizes.{log_room}
use Rattle.gkr.specs.TranscriptLaws.{sampled_words}
use Rattle.transcript.specs.Used.{used, unused}
use Rattle.refusal.specs.declared.Refusal.{Refusal}
use Rattle.refusal.specs.declared.Refusal.TheVariants.{ShortChallenges, ZeroRounds, ZeroRoot}
use Rattle.refusal.specs.Numbers.{report_of}
use Rattle.refusal.specs.Fronts.{over}
use Rattle.refusal.specs.Tests.{passed, first_of}
use Rattle.stored.specs.Parse.{count_of_layers, count_of_entries, sized, proof_of}
use Rattle.stored.specs.Elements.{decoded}
use Rattle.verifier_round.specs.declared.Claims.{Claims}
use Rattle.verifier.specs.Verified.{Asked, Lent, Outcome, outcome, asked, tests, laid, verified}

-- two outcomes over different buffers: the same answer, and the same words written
pub record Alike (b b' : Lent) (o o' : Outcome) : Type 0 where
  pub front : Outcome
  pub here : o ≡ laid front b
  pub there : o' ≡ laid front b'

abbrev pub Isolation : Type 0
Isolation = (a : Asked) (b b' : Lent) → length b.point ≡ length b'.point → length b.log ≡ length b'.log → Alike b b' (verified a b) (verified a b')

-- 16 to 19 leave the point untouched, and every other refusal both buffers
pub record Untouched (a : Asked) (b : Lent) : Type 0 where
  pub point : (e : Refusal) → (verified a b).answer ≡ Err e → (verified a b).buffers.point ≡ b.point
  pub both : (e : Refusal) → (verified a b).answer ≡ Err e → ¬ ((16 ≤ (report_of e).number) × ((report_of e).number ≤ 19)) → (verified a b).buffers ≡ b

-- LIVE MODE

abbrev pub in_mode : (live : Bool) → Asked → Asked
in_mode live a = asked a.proof a.rounds (record { live = live; drawn = a.modes.drawn; empty = a.modes.empty }) a.challenges

-- one round or more, both counts are those of the rounds, and q0 is zero
pub record ZeroRooted (a : Asked) : Type 0 where
  pub some : 1 ≤ a.rounds
  pub layers : count_of_layers a.proof ≡ a.rounds
  pub entries : count_of_entries a.proof ≡ a.rounds - 1
  pub q0 : (decoded (proof_of a.proof)).q0 ≡ E.nil

-- live is sandbox but for 27; 27 is given exactly where the sandbox refuses nothing before its run and the root is zero; it is never the sandbox's
pub record LiveVerifying (a : Asked) (b : Lent) : Type 0 where
  pub equal : ¬ ((verified (in_mode true a) b).answer ≡ Err ZeroRoot) → verified (in_mode true a) b ≡ verified (in_mode false a) b
  pub given : ((verified (in_mode true a) b).answer ≡ Err ZeroRoot) ↔ ((first_of (tests (in_mode false a) (length b.point) (length b.log)) ≡ passed) × ZeroRooted a)
  pub sandbox : ¬ ((verified (in_mode false a) b).answer ≡ Err ZeroRoot)

-- DRAWN CHALLENGES: those lent are not read, whatever they are and however many; 4 is never given
pub record DrawnVerifying (a : Asked) (b : Lent) : Type 0 where
  pub unread : a.modes.drawn ≡ true → (lent : List ℕ) → verified (asked a.proof a.rounds a.modes lent) b ≡ verified a b
  pub enough : a.modes.drawn ≡ true → ¬ ((verified a b).answer ≡ Err ShortChallenges)

-- EMPTY SHEETS: of one round or more the mode says nothing; without it 0 rounds are refused as 10, whatever else is wrong; with it they never are, and nothing is written
abbrev pub emptied_mode : (empty : Bool) → Asked → Asked
emptied_mode empty a = asked a.proof a.rounds (record { live = a.modes.live; drawn = a.modes.drawn; empty = empty }) a.challenges

pub record EmptyVerifying (a : Asked) (b : Lent) : Type 0 where
  pub equal : 1 ≤ a.rounds → verified (emptied_mode true a) b ≡ verified (emptied_mode false a) b
  pub old : a.rounds ≡ 0 → verified (emptied_mode false a) b ≡ outcome (Err ZeroRounds) unused b.point b.log
  pub never : ¬ ((verified (emptied_mode true a) b).answer ≡ Err ZeroRounds)
  pub nothing : a.rounds ≡ 0 → (verified (emptied_mode true a) b).buffers ≡ b

-- WHAT WAS USED UP: so many words stand at the front of the log, and four sampled ones among them for each challenge; at most those of a run, and those where it accepts;
-- nothing for no rounds, and for a refusal before the run
pub record UsedUp (a : Asked) (b : Lent) : Type 0 where
  pub written : List ℕ
  pub log : (verified a b).buffers.log ≡ over written b.log
  pub words : length written ≡ (verified a b).used.words
  pub sampled : length (sampled_words written) ≡ 4 * (verified a b).used.challenges
  pub most : 1 ≤ a.rounds → ((verified a b).used.challenges ≤ challenges a.rounds) × ((verified a b).used.words ≤ log_room true (sized a.proof) a.rounds)
  pub whole : (c : Claims) → (verified a b).answer ≡ Ok c → 1 ≤ a.rounds → (verified a b).used ≡ used (challenges a.rounds) (log_room true (sized a.proof) a.rounds)
  pub none : (e : Refusal) → (verified a b).answer ≡ Err e → ¬ ((16 ≤ (report_of e).number) × ((report_of e).number ≤ 19)) → (verified a b).used ≡ unused
  pub no_rounds : a.rounds ≡ 0 → (verified a b).used ≡ unused
