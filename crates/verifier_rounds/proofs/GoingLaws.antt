-- The loop over the rounds, and round 0 before it.
-- Assumes nothing.
use Rattle.std.specs.Prelude.{Result, Ok, Err}
use mathlib.Core.Path.{◌≡◌, ◌∙◌, ap, ap₂, subst}
use mathlib.Core.Bool.{true}
use mathlib.Core.List.{List, ◌∷◌, map}
use Prim.Native.Nat.{ℕ, suc, ◌+◌, ◌*◌, ◌-◌, ◌<◌, ◌≤◌}
use native.Mathlib.Omega.{arith}
use lib.ListN.{length, get_or, drop}
use Rattle.field.specs.Ext as E
use Rattle.field.specs.Extension.{Extension}
use Rattle.field.specs.declared.Ext.{Ext}
use Rattle.field.specs.Element.{dec}
use Rattle.field.specs.Cells.{cells}
use Rattle.wire.specs.Words.{all_canonical}
use Rattle.wire.specs.Bytes.{elem}
use Rattle.gkr.specs.Transcripts.{Source}
use Rattle.stored.specs.declared.LayerClaims.{LayerClaims}
use Rattle.stored.specs.Shapes.{claims_in}
use Rattle.stored.specs.Layout.{cubics_words}
use Rattle.stored.specs.Parse.{claims_of, claims_from, cubics_from, entries_from}
use Rattle.stored.specs.ParseLaws.{claims_step, entries_step, entry_fits}
use Rattle.gkr.specs.Count.{layers_cost}
use Rattle.gkr.specs.Gkr as Gkr
use Rattle.gkr.specs.Gkr.{accepted}
use Rattle.refusal.specs.declared.Refusal.{Refusal}
use Rattle.transcript.specs.Log.{Drawing, Enough, State, log_of}
use Rattle.transcript.proofs.Logs.{enough_fewer, enough_after}
use Rattle.verifier_round.specs.declared.Claims.{Claims as Claimed}
use Rattle.stored.specs.ReadWords.{CanonClaims}
use Rattle.verifier_round.specs.Values.{dec_cubic, dec_claims, columns}
use Rattle.verifier_round.specs.Rounds.{Goes, Advances, Rooted}
use Rattle.verifier_rounds.specs.Runs.{entry_at, RoundDone, Readable, going, LayersEnd, Going, RootEnd}
use Rattle.verifier_rounds.proofs.Messages.{claim_first, claims_rest, entry_first, entries_rest}
use Rattle.verifier_rounds.proofs.StopLaws.{later_still, stopped_before, ended_before}

-- ---- what is read
pub record NextRead (bs : List ℕ) (claims polys h : ℕ) : Type 0 where
  pub claims_there : claims + 64 ≤ length bs
  pub entry_there : polys + 1 + 48 * get_or bs polys 0 ≤ length bs
  pub claims_canon : CanonClaims (claims_of (drop claims bs))
  pub entry_canon : all_canonical (cubics_words (cubics_from (get_or bs polys 0) (drop (polys + 1) bs))) ≡ true
  pub rest : Readable bs (claims + 64) (polys + 1 + 48 * get_or bs polys 0) h

pub read_next : (bs : List ℕ) (claims polys h : ℕ) → Readable bs claims polys (suc h) → NextRead bs claims polys h
read_next bs claims polys h r =
    let e = entry_fits h polys bs r.polys_there r.polys_fit in
    record {
      claims_there = omega (arith, r.claims_there);
      entry_there = e.room;
      claims_canon = claim_first h claims bs r.claims_canon;
      entry_canon = entry_first h polys bs r.polys_canon;
      rest = record {
        claims_there = omega (arith, r.claims_there);
        claims_canon = claims_rest h claims bs r.claims_canon;
        polys_there = e.room;
        polys_fit = e.fit;
        polys_canon = entries_rest h polys bs r.polys_canon;
      };
    }

-- ---- what the next of more rounds costs
words_next : (h r : ℕ) → layers_cost 4 4 (suc h) r ≡ (16 * r + 24) + layers_cost 4 4 h (r + 1)
unfolding layers_cost
words_next h r = let e : suc r ≡ r + 1 = omega arith in omega (arith, ap (layers_cost 4 4 h) e)

draws_next : (h r : ℕ) → layers_cost 0 1 (suc h) r ≡ (r + 2) + layers_cost 0 1 h (r + 1)
unfolding layers_cost
draws_next h r = let e : suc r ≡ r + 1 = omega arith in omega (arith, ap (layers_cost 0 1 h) e)

-- ---- the loop
-- the model's next round is the one at these places
next_round : (bs pt : List ℕ) (t : State) (ch : Source E.Ext) (claims polys h r : ℕ) (s : Claimed) → going bs pt t ch claims polys (suc h) r s
    ≡ Gkr.rounds Extension (Drawing ch) (entry_at bs polys ∷ map (map dec_cubic) (entries_from h (drop (polys + 1 + 48 * get_or bs polys 0) bs)))
    (dec_claims (claims_of (drop claims bs)) ∷ map dec_claims (claims_from h (drop (claims + 64) bs))) (columns s) (cells pt 0 r) (log_of t)
next_round bs pt t ch claims polys h r s =
    ap₂ (λ mss cs. Gkr.rounds Extension (Drawing ch) (map (map dec_cubic) mss) (map dec_claims cs) (columns s) (cells pt 0 r) (log_of t)) (entries_step h polys bs) (claims_step h claims bs)

module _ {bs pt₀ pt : List ℕ} {t₀ t : State} {ch : Source E.Ext} {claims₀ claims polys₀ polys n r : ℕ} {s₀ s : Claimed} (i : Going bs pt₀ pt t₀ t ch claims₀ claims polys₀ polys n r s₀ s) where
  abbrev h : ℕ
  h = n - (r + 1)

  left : r < n → n - r ≡ suc h
  left b = omega arith

  pub next_read : r < n → NextRead bs claims polys h
  next_read b = read_next bs claims polys h (subst (Readable bs claims polys) (left b) i.read)

  words_left : r < n → layers_cost 4 4 (n - r) r ≡ (16 * r + 24) + layers_cost 4 4 h (r + 1)
  words_left b = ap (λ k. layers_cost 4 4 k r) (left b) ∙ words_next h r

  draws_left : r < n → layers_cost 0 1 (n - r) r ≡ (r + 2) + layers_cost 0 1 h (r + 1)
  draws_left b = ap (λ k. layers_cost 0 1 k r) (left b) ∙ draws_next h r

  pub next_room : r < n → t.put + (16 * r + 24) ≤ length t.buffer
  next_room b = omega (arith, i.room, words_left b)

  pub next_enough : r < n → Enough t (r + 2)
  next_enough b = enough_fewer (layers_cost 0 1 (n - r) r) (omega (arith, draws_left b)) i.enough

  unfolded : r < n → going bs pt₀ t₀ ch claims₀ polys₀ (n - 1) 1 s₀
      ≡ Gkr.rounds Extension (Drawing ch) (entry_at bs polys ∷ map (map dec_cubic) (entries_from h (drop (polys + 1 + 48 * get_or bs polys 0) bs)))
      (dec_claims (claims_of (drop claims bs)) ∷ map dec_claims (claims_from h (drop (claims + 64) bs))) (columns s) (cells pt 0 r) (log_of t)
  unfolded b = i.verdict ∙ ap (λ k. going bs pt t ch claims polys k r s) (left b) ∙ next_round bs pt t ch claims polys h r s

  module _ {pt' : List ℕ} {t' : State} {a : Result Claimed Refusal} (b : r < n) (d : RoundDone bs pt pt' t t' ch claims polys r s a) where
    pub going_stop : (e : Refusal) → a ≡ Err e → LayersEnd bs pt₀ pt' t₀ t' ch claims₀ polys₀ n s₀ (Err e)
    going_stop e q =
        let st = subst (Advances t t' pt' ch (r + 1) (16 * r + 24) (r + 2) _) q d.run in
        stopped_before i.steps (unfolded b) (st _ _)

    pub going_next : (v : Claimed) → a ≡ Ok v → length pt' ≡ length pt → Going bs pt₀ pt' t₀ t' ch claims₀ (claims + 64) polys₀ (polys + (1 + 48 * r)) n (r + 1) s₀ v
    going_next v q x =
        let g = subst (Advances t t' pt' ch (r + 1) (16 * r + 24) (r + 2) _) q d.run in
        let p : polys + 1 + 48 * get_or bs polys 0 ≡ polys + (1 + 48 * r) = omega (arith, d.counted v q) in
        record {
          from = omega arith;
          upto = omega arith;
          verdict = unfolded b ∙ g.verdict _ _ ∙ ap (λ k. going bs pt' t' ch (claims + 64) k h (r + 1) v) p;
          steps = later_still i.steps g.steps;
          room = omega (arith, i.room, words_left b, g.steps.put, g.steps.room);
          enough = enough_after (layers_cost 0 1 (n - r) r) (omega arith) (omega (arith, draws_left b)) g.steps i.enough;
          read = subst (λ k. Readable bs (claims + 64) k h) p (next_read b).rest;
          numer = g.numer;
          denom = g.denom;
          clean = g.clean;
          points = x ∙ i.points;
        }

  pub going_end : n ≤ r → LayersEnd bs pt₀ pt t₀ t ch claims₀ polys₀ n s₀ (Ok s)
  unfolding Gkr.rounds entries_from claims_from
  going_end b =
      let z : n - r ≡ 0 = omega (arith, i.upto) in
      let e : r ≡ n = omega (arith, i.upto) in
      let last : going bs pt t ch claims polys (n - r) r s ≡ accepted (columns s) (cells pt 0 r) (log_of t) = ap (λ k. going bs pt t ch claims polys k r s) z in
      record {
        verdict = i.verdict ∙ last ∙ ap (λ k. accepted (columns s) (cells pt 0 k) (log_of t)) e;
        steps = i.steps;
        room = omega (arith, i.room, i.steps.room);
        numer = i.numer;
        denom = i.denom;
        clean = i.clean;
      }

-- ---- round 0
module _ (bs : List ℕ) (t t₁ : State) (ch : Source E.Ext) (polys n : ℕ) (q0 : Ext) (c : LayerClaims) (pt₁ : List ℕ) (a : Result Claimed Refusal) (x : q0 ≡ elem (drop 5 bs)) (y : claims_in c ≡ claims_of (drop 22 bs))
    (d : Rooted pt₁ t t₁ ch (dec q0) (dec_claims (claims_in c)) a) where
  there : Rooted pt₁ t t₁ ch (dec (elem (drop 5 bs))) (dec_claims (claims_of (drop 22 bs))) a
  there = subst (λ e. Rooted pt₁ t t₁ ch (dec e) (dec_claims (claims_of (drop 22 bs))) a) x (subst (λ e. Rooted pt₁ t t₁ ch (dec q0) (dec_claims e) a) y d)

  pub root_goes : (s : Claimed) → a ≡ Ok s → Goes t t₁ pt₁ ch 1 24 1 (λ mss cs. Gkr.root Extension (Drawing ch) (dec (elem (drop 5 bs))) (dec_claims (claims_of (drop 22 bs))) cs mss (log_of t)) s
  root_goes s q = subst (Advances t t₁ pt₁ ch 1 24 1 _) q there

  pub root_end : (pt' : List ℕ) (t' : State) (s : Claimed) (r : Result Claimed Refusal) → a ≡ Ok s → {ch₁ : Source E.Ext} → ch₁ ≡ ch → LayersEnd bs pt₁ pt' t₁ t' ch₁ 86 polys n s r → RootEnd bs pt' t t' ch polys n r
  root_end pt' t' s r q w e = let g = root_goes s q in ended_before g.steps t' pt' n r (g.verdict _ _) (subst (λ d. LayersEnd bs pt₁ pt' t₁ t' d 86 polys n s r) w e)
