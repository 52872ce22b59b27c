-- What the loops over a proof's bytes do, by the model's functions on what is left of the lists read.
-- Assumes nothing.
use Rattle.std.specs.Prelude.{◌≡◌, Result, Ok, Err, true, List, ◌∷◌, ◌++◌, map, ℕ, ◌+◌, ◌*◌, ◌-◌, ◌≤◌, length, get_or, drop}
use Rattle.field.specs.Ext as E
use Rattle.field.specs.Extension.{Extension}
use Rattle.field.specs.Element.{dec, Canon, Is}
use Rattle.field.specs.Cells.{Clean, cells}
use Rattle.wire.specs.Words.{all_canonical}
use Rattle.wire.specs.Bytes.{elem}
use Rattle.gkr.specs.Transcripts.{Source}
use Rattle.stored.specs.Layout.{claims_words, cubics_words, polys_words}
use Rattle.stored.specs.Parse.{claims_of, claims_from, cubics_from, entries_from, entries_fit}
use Rattle.gkr.specs.Run.{Cubic}
use Rattle.gkr.specs.Count.{layers_cost}
use Rattle.gkr.specs.Sumcheck as Sumcheck
use Rattle.gkr.specs.Gkr as Gkr
use Rattle.gkr.specs.Gkr.{accepted}
use Rattle.transcript.specs.Log.{Drawing, Enough, State, Steps, log_of}
use Rattle.refusal.specs.declared.Refusal.{Refusal}
use Rattle.verifier_round.specs.declared.Claims.{Claims as Claimed}
use Rattle.verifier_round.specs.declared.Sums.{Sums}
use Rattle.verifier_round.specs.Values.{dec_cubic, dec_claims, columns, CanonSums}
use Rattle.verifier_round.specs.Points.{ahead}
use Rattle.verifier_round.specs.Verdicts.{Model}
use Rattle.verifier_round.specs.Rounds.{Advances, Stops}

-- THE SUB-ROUNDS

-- the polynomials of k sub-rounds from a place on
abbrev pub cubics_at : List ℕ → ℕ → ℕ → List (Cubic E.Ext)
cubics_at bs at k = map dec_cubic (cubics_from k (drop at bs))

-- the model over the last k sub-rounds, of which the first is sub-round j
abbrev pub summing : (bs pt : List ℕ) (t : State) (ch : Source E.Ext) (at j k : ℕ) (s : Sums) → Sumcheck.Checked Extension (Drawing ch)
summing bs pt t ch at j k s = Sumcheck.verify_gkr_sumcheck Extension (Drawing ch) (cubics_at bs at k) (ahead (dec s.xi) pt j k) (dec s.claim) (dec s.eq) (log_of t)

-- what k sub-rounds leave
pub record Summed (bs pt pt' : List ℕ) (t t' : State) (ch : Source E.Ext) (from k : ℕ) (s r : Sums) : Type 0 where
  pub claim : Is r.claim (summing bs pt t ch from 0 k s).claim
  pub eq : Is r.eq (summing bs pt t ch from 0 k s).eq
  pub point : cells pt' 1 k ≡ (summing bs pt t ch from 0 k s).point
  pub steps : Steps t t' (16 * k) k (summing bs pt t ch from 0 k s).log
  pub xi : Canon r.xi
  pub clean : Clean pt'

-- before sub-round j of k: the rhos so far, and what the model makes of the rest from here, are what it makes of all from the start
pub record Summing (bs pt₀ pt : List ℕ) (t₀ t : State) (ch : Source E.Ext) (from at k j : ℕ) (s₀ s : Sums) : Type 0 where
  pub upto : j ≤ k
  pub place : at ≡ from + 48 * j
  pub claim : (summing bs pt t ch at j (k - j) s).claim ≡ (summing bs pt₀ t₀ ch from 0 k s₀).claim
  pub eq : (summing bs pt t ch at j (k - j) s).eq ≡ (summing bs pt₀ t₀ ch from 0 k s₀).eq
  pub point : cells pt 1 j ++ (summing bs pt t ch at j (k - j) s).point ≡ (summing bs pt₀ t₀ ch from 0 k s₀).point
  pub log : (summing bs pt t ch at j (k - j) s).log ≡ (summing bs pt₀ t₀ ch from 0 k s₀).log
  pub steps : Steps t₀ t (16 * j) j (log_of t)
  pub canon : CanonSums s
  pub words : all_canonical (cubics_words (cubics_from (k - j) (drop at bs))) ≡ true
  pub clean : Clean pt
  pub points : length pt ≡ length pt₀

-- ONE ROUND

abbrev pub entry_at : List ℕ → ℕ → List (Cubic E.Ext)
entry_at bs polys = cubics_at bs (polys + 1) (get_or bs polys 0)

-- a round takes the model on or stops it, whatever comes after; one that holds has as many sub-rounds as its number
pub record RoundDone (bs pt pt' : List ℕ) (t t' : State) (ch : Source E.Ext) (claims polys round : ℕ) (s : Claimed) (r : Result Claimed Refusal) : Type 0 where
  pub run : Advances t t' pt' ch (round + 1) (16 * round + 24) (round + 2)
      (λ mss cs. Gkr.rounds Extension (Drawing ch) (entry_at bs polys ∷ mss) (dec_claims (claims_of (drop claims bs)) ∷ cs) (columns s) (cells pt 0 round) (log_of t)) r
  pub counted : (v : Claimed) → r ≡ Ok v → get_or bs polys 0 ≡ round

-- ALL ROUNDS

-- h layers of claims and h polynomial entries stand from these places on, and their words are canonical
pub record Readable (bs : List ℕ) (claims polys h : ℕ) : Type 0 where
  pub claims_there : claims + 64 * h ≤ length bs
  pub claims_canon : all_canonical (claims_words (claims_from h (drop claims bs))) ≡ true
  pub polys_there : polys ≤ length bs
  pub polys_fit : entries_fit h (drop polys bs) ≡ true
  pub polys_canon : all_canonical (polys_words (entries_from h (drop polys bs))) ≡ true

-- the model over the h rounds from round r on
abbrev pub going : (bs pt : List ℕ) (t : State) (ch : Source E.Ext) (claims polys h r : ℕ) (s : Claimed) → Model ch
going bs pt t ch claims polys h r s =
    Gkr.rounds Extension (Drawing ch) (map (map dec_cubic) (entries_from h (drop polys bs))) (map dec_claims (claims_from h (drop claims bs))) (columns s) (cells pt 0 r) (log_of t)

-- however many words and challenges on
abbrev pub Later : State → State → Type 0
Later t t' = Steps t t' (t'.put - t.put) (t'.used - t.used) (log_of t')

-- a run that accepts: the claims, the point of n coordinates and the log are the verdict's
pub record Accepts (t t' : State) (pt' : List ℕ) (ch : Source E.Ext) (n : ℕ) (v : Model ch) (s : Claimed) : Type 0 where
  pub verdict : v ≡ accepted (columns s) (cells pt' 0 n) (log_of t')
  pub steps : Later t t'
  pub room : t'.put ≤ length t.buffer
  pub numer : Canon s.numer
  pub denom : Canon s.denom
  pub clean : Clean pt'

-- one or the other
abbrev pub Ends : (t t' : State) (pt' : List ℕ) (ch : Source E.Ext) (n : ℕ) → Model ch → Result Claimed Refusal → Type 0
Ends t t' pt' ch n v (Ok s) = Accepts t t' pt' ch n v s
Ends t t' pt' ch n v (Err e) = Stops t t' ch v e

abbrev pub LayersEnd : (bs pt pt' : List ℕ) (t t' : State) (ch : Source E.Ext) (claims polys n : ℕ) (s : Claimed) (r : Result Claimed Refusal) → Type 0
LayersEnd bs pt pt' t t' ch claims polys n s r = Ends t t' pt' ch n (going bs pt t ch claims polys (n - 1) 1 s) r

-- before round r of n: from here the model comes to what it comes to from the start, with room in the log and challenges for the rounds left
pub record Going (bs pt₀ pt : List ℕ) (t₀ t : State) (ch : Source E.Ext) (claims₀ claims polys₀ polys n r : ℕ) (s₀ s : Claimed) : Type 0 where
  pub from : 1 ≤ r
  pub upto : r ≤ n
  pub verdict : going bs pt₀ t₀ ch claims₀ polys₀ (n - 1) 1 s₀ ≡ going bs pt t ch claims polys (n - r) r s
  pub steps : Later t₀ t
  pub room : t.put + layers_cost 4 4 (n - r) r ≤ length t.buffer
  pub enough : Enough t (layers_cost 0 1 (n - r) r)
  pub read : Readable bs claims polys (n - r)
  pub numer : Canon s.numer
  pub denom : Canon s.denom
  pub clean : Clean pt
  pub points : length pt ≡ length pt₀

-- from round 0 on
abbrev pub RootEnd : (bs pt' : List ℕ) (t t' : State) (ch : Source E.Ext) (polys n : ℕ) (r : Result Claimed Refusal) → Type 0
RootEnd bs pt' t t' ch polys n r =
    Ends t t' pt' ch n
    (Gkr.root Extension (Drawing ch) (dec (elem (drop 5 bs))) (dec_claims (claims_of (drop 22 bs))) (map dec_claims (claims_from (n - 1) (drop 86 bs))) (map (map dec_cubic) (entries_from (n - 1) (drop polys bs))) (log_of t))
    r
