-- What each step of a round does to the point, the transcript and the claims, by the model's functions.
-- Assumes nothing.
use Rattle.std.specs.Prelude.{◌≡◌, Result, Ok, Err, List, [], ◌∷◌, ℕ, ◌+◌, ◌≤◌, length, drop}
use Rattle.field.specs.Ext as E
use Rattle.field.specs.ExtRing.{ExtRing}
use Rattle.field.specs.Extension.{Extension}
use Rattle.field.specs.declared.Ext.{Ext}
use Rattle.field.specs.Element.{dec, Canon, Is}
use Rattle.field.specs.Cells.{cell, Clean, Stored, cells}
use Rattle.multilinear.specs.Forms as Forms
use Rattle.multilinear.specs.Interpolate as Interpolate
use Rattle.multilinear.specs.RoundSum.{Claims}
use Rattle.gkr.specs.Run.{Frac, Cubic}
use Rattle.gkr.specs.Transcripts.{Words, Source}
use Rattle.gkr.specs.Tree as Tree
use Rattle.gkr.specs.Sumcheck as Sumcheck
use Rattle.gkr.specs.Gkr as Gkr
use Rattle.transcript.specs.Log.{Drawing, Observing, State, Steps, log_of}
use Rattle.refusal.specs.declared.Refusal.{Refusal}
use Rattle.step.specs.Values.{minus}
use Rattle.verifier_round.specs.declared.Claims.{Claims as Claimed}
use Rattle.verifier_round.specs.declared.Sums.{Sums}
use Rattle.verifier_round.specs.declared.Opened.{Opened}
use Rattle.verifier_round.specs.Values.{columns}
use Rattle.verifier_round.specs.Verdicts.{Model, answer_of, point_of, left_by}

-- lambda is sampled and batches the claims, eq is one, and the old point's first coordinate is at hand
pub record LayerOpened (pt : List ℕ) (t t' : State) (ch : Source E.Ext) (s : Claimed) (r : Opened) : Type 0 where
  pub steps : Steps t t' 4 1 ((Drawing ch).drawn (log_of t))
  pub lambda : Is r.lambda (ch (log_of t))
  pub claim : Is r.first.claim (E.add (dec s.numer) (E.mul (ch (log_of t)) (dec s.denom)))
  pub eq : Is r.first.eq E.one
  pub xi : Is r.first.xi (cell pt 0)

-- the log after a sub-round's message
abbrev pub told : Cubic E.Ext → State → Words
told m t = Sumcheck.observe_cubic Extension Observing m (log_of t)

-- one sub-round: the message m is observed, rho sampled and kept in cell j + 1, claim and eq taken on
pub record SubChecked (pt pt' : List ℕ) (t t' : State) (ch : Source E.Ext) (j : ℕ) (m : Cubic E.Ext) (s r : Sums) : Type 0 where
  pub steps : Steps t t' 16 1 ((Drawing ch).drawn (told m t))
  pub rho : Stored pt pt' (j + 1) (ch (told m t))
  pub claim : Is r.claim (Interpolate.cubic Extension (minus (dec s.claim) m.at1) m.at1 m.at2 m.at3 (ch (told m t)))
  pub eq : Is r.eq (E.mul (dec s.eq) (Forms.agree ExtRing (dec s.xi) (ch (told m t))))
  pub xi : Is r.xi (cell pt (j + 1))

-- mu is sampled and kept in cell 0, and the claims c are brought together there
pub record Descended (pt pt' : List ℕ) (t t' : State) (ch : Source E.Ext) (c : Claims E.Ext) (r : Claimed) : Type 0 where
  pub steps : Steps t t' 4 1 ((Drawing ch).drawn (log_of t))
  pub mu : Stored pt pt' 0 (ch (log_of t))
  pub numer : Is r.numer (Tree.reduce_to_single_evaluation ExtRing c (ch (log_of t))).p
  pub denom : Is r.denom (Tree.reduce_to_single_evaluation ExtRing c (ch (log_of t))).q

-- A layer that holds: whatever layers come after it, the model goes on from here, at a point of k coordinates.
pub record Goes (t t' : State) (pt' : List ℕ) (ch : Source E.Ext) (k n m : ℕ) (v : List (List (Cubic E.Ext)) → List (Claims E.Ext) → Model ch) (s : Claimed) : Type 0 where
  pub verdict : (mss : List (List (Cubic E.Ext))) (cs : List (Claims E.Ext)) → v mss cs ≡ Gkr.rounds Extension (Drawing ch) mss cs (columns s) (cells pt' 0 k) (log_of t')
  pub steps : Steps t t' n m (log_of t')
  pub numer : Canon s.numer
  pub denom : Canon s.denom
  pub clean : Clean pt'

-- A run that stops: the verdict v refuses by e, and the log holds what v says, past which the buffer is as before.
pub record Stops (t t' : State) (ch : Source E.Ext) (v : Model ch) (e : Refusal) : Type 0 where
  pub answer : answer_of ch v ≡ Err e
  pub point : point_of ch v ≡ []
  pub more : t.put ≤ t'.put
  pub room : t'.put ≤ length t.buffer
  pub kept : length t'.buffer ≡ length t.buffer
  pub drawn : t'.drawn ≡ t.drawn
  pub challenges : t'.challenges ≡ t.challenges
  pub log : log_of t' ≡ left_by ch v
  pub rest : drop t'.put t'.buffer ≡ drop t'.put t.buffer

-- one or the other
abbrev pub Advances : (t t' : State) (pt' : List ℕ) (ch : Source E.Ext) (k n m : ℕ) → (List (List (Cubic E.Ext)) → List (Claims E.Ext) → Model ch) → Result Claimed Refusal → Type 0
Advances t t' pt' ch k n m v (Ok s) = Goes t t' pt' ch k n m v s
Advances t t' pt' ch k n m v (Err e) = (mss : List (List (Cubic E.Ext))) (cs : List (Claims E.Ext)) → Stops t t' ch (v mss cs) e

-- The model's sub-rounds over ms, from the claims v at the point z and the log w, end where s and the transcript stand.
pub record Came (pt : List ℕ) (t : State) (ch : Source E.Ext) (round : ℕ) (lambda : Ext) (s : Sums) (ms : List (Cubic E.Ext)) (v : Frac E.Ext) (z : List E.Ext) (w : Words) : Type 0 where
  pub counted : length ms ≡ round
  pub long : length z ≡ round
  pub drew : ch w ≡ dec lambda
  pub sums : Sumcheck.verify_gkr_sumcheck Extension (Drawing ch) ms z (E.add v.p (E.mul (ch w) v.q)) E.one ((Drawing ch).drawn w) ≡ record { claim = dec s.claim; point = cells pt 1 round; eq = dec s.eq; log = log_of t }

-- the end of a layer, whatever its sub-rounds were
abbrev pub LayerChecked : (pt pt' : List ℕ) (t t' : State) (ch : Source E.Ext) (c : Claims E.Ext) (round : ℕ) (lambda : Ext) (s : Sums) (r : Result Claimed Refusal) → Type 0
LayerChecked pt pt' t t' ch c round lambda s r =
    (ms : List (Cubic E.Ext)) (v : Frac E.Ext) (z : List E.Ext) (w : Words) → Came pt t ch round lambda s ms v z w
    → Advances t t' pt' ch (round + 1) 20 1 (λ mss cs. Gkr.rounds Extension (Drawing ch) (ms ∷ mss) (c ∷ cs) v z w) r

-- layer 0
abbrev pub Rooted : (pt' : List ℕ) (t t' : State) (ch : Source E.Ext) (q0 : E.Ext) (c : Claims E.Ext) (r : Result Claimed Refusal) → Type 0
Rooted pt' t t' ch q0 c r = Advances t t' pt' ch 1 24 1 (λ mss cs. Gkr.root Extension (Drawing ch) q0 c cs mss (log_of t)) r
