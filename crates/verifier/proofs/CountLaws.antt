-- The two counts, and what the run asks once they are right.
-- Assumes nothing.
use Rattle.std.specs.Prelude.{Result, Err}
use mathlib.Core.Path.{◌≡◌, refl, sym, ◌∙◌, ap, ap₂, subst}
use mathlib.Core.Bool.{Bool, true, false, cond}
use mathlib.Core.List.{List, [], ◌∷◌, ◌++◌, map}
use Prim.Native.Nat.{ℕ, suc, ◌+◌, ◌*◌, ◌-◌, ◌≤◌}
use native.Mathlib.Omega.{arith}
use borrow.Author.Tests.{eq-eqb, ne_eqb}
use lib.Dec.{eqb}
use lib.ListN.{length, take, drop}
use Rattle.field.specs.Ext as E
use Rattle.field.specs.Extension.{Extension}
use Rattle.field.specs.Element.{dec, Canon}
use Rattle.multilinear.specs.RoundSum.{Claims}
use Rattle.gkr.specs.Run.{Cubic, Proof}
use Rattle.gkr.specs.Transcripts.{Words, empty, Source}
use Rattle.gkr.specs.Count.{layers_cost, run_cost}
use Rattle.gkr.proofs.Count.{words, draws}
use Rattle.gkr.specs.Sizes.{challenges}
use Rattle.gkr.specs.Gkr as Gkr
use Rattle.gkr.specs.Gkr.{layer_count, poly_count}
use Rattle.transcript.specs.Log.{Drawing, Enough, State, Steps, log_of}
use Rattle.transcript.specs.Bound.{bound}
use Rattle.transcript.proofs.Logs.{no_steps, enough_after}
use Rattle.refusal.specs.declared.Refusal.{Refusal}
use Rattle.refusal.specs.declared.Refusal.TheVariants.{IncorrectLayerCount, IncorrectSumcheckPolyCount}
use Rattle.sizes.specs.Sizes.{needed_words, log_room}
use Rattle.wire.specs.Bytes.{elem}
use Rattle.wire.specs.Words.{all_canonical, ext_words}
use Rattle.wire.specs.WordLaws.{canonical_left, canonical_right, canonical_elem}
use Rattle.stored.specs.declared.Outline.{Outline}
use Rattle.stored.specs.Layout.{claims_words, polys_words}
use Rattle.stored.specs.Parse.{claims_of, claims_from, entries_from, entries_fit, sized, count_of_layers, count_of_entries, polys_at, proof_of}
use Rattle.stored.specs.Elements.{decoded}
use Rattle.stored.specs.ParseLaws.{Shaped, claims_count, entries_count, claims_step}
use Rattle.verifier_round.specs.declared.Claims.{Claims as Claimed}
use Rattle.stored.specs.ReadWords.{CanonClaims}
use Rattle.verifier_round.specs.Values.{dec_claims, dec_cubic}
use Rattle.verifier_round.specs.Verdicts.{Model, answer_of, point_of, left_by}
use Rattle.verifier_round.specs.Rounds.{Stops}
use Rattle.verifier_round.proofs.Ends.{stops_there}
use Rattle.verifier_rounds.specs.Runs.{Readable, RootEnd}
use Rattle.verifier_rounds.proofs.Messages.{claim_first, claims_rest}
use Rattle.verifier_rounds.proofs.RoundLaws.{map_length}
use Rattle.verifier_rounds.proofs.StopLaws.{ended_before}
use Rattle.verifier.specs.Gates.{Ready, Starts, verdict, Counted}

-- ---- the model's counts
verify_counted : (ch : Source E.Ext) (n m : ℕ) (π : Proof E.Ext) (t : Words) → n ≡ suc m → Gkr.verify_gkr Extension (Drawing ch) n π t ≡ Gkr.counted Extension (Drawing ch) m π.q0 π.claims π.polys t
unfolding Gkr.verify_gkr
verify_counted ch n m π t e = ap (λ k. Gkr.verify_gkr Extension (Drawing ch) k π t) e

layers_differ : (ch : Source E.Ext) (m k : ℕ) (q0 : E.Ext) (cs : List (Claims E.Ext)) (mss : List (List (Cubic E.Ext))) (t : Words) → length cs ≡ k → (k ≡ suc m → ⊥)
    → Gkr.counted Extension (Drawing ch) m q0 cs mss t ≡ layer_count (suc m) k
unfolding Gkr.counted
layers_differ ch m k q0 [] mss t e h = ap (layer_count (suc m)) e
layers_differ ch m k q0 (c ∷ cs) mss t e h =
    let f : eqb (length cs) m ≡ false = ne_eqb (length cs) m (λ q. h (sym e ∙ ap suc q)) in
    rw f (ap (layer_count (suc m)) e)

polys_differ : (ch : Source E.Ext) (m k : ℕ) (q0 : E.Ext) (c : Claims E.Ext) (cs : List (Claims E.Ext)) (mss : List (List (Cubic E.Ext))) (t : Words) → length cs ≡ m → length mss ≡ k → (k ≡ m → ⊥)
    → Gkr.counted Extension (Drawing ch) m q0 (c ∷ cs) mss t ≡ poly_count m k
unfolding Gkr.counted
polys_differ ch m k q0 c cs mss t a e h =
    let f : eqb (length cs) m ≡ true = eq-eqb (length cs) m a in
    let g : eqb (length mss) m ≡ false = ne_eqb (length mss) m (λ q. h (sym e ∙ q)) in
    rw (f, g) (ap (poly_count m) e)

both_right : (ch : Source E.Ext) (m : ℕ) (q0 : E.Ext) (c : Claims E.Ext) (cs : List (Claims E.Ext)) (mss : List (List (Cubic E.Ext))) (t : Words) → length cs ≡ m → length mss ≡ m
    → Gkr.counted Extension (Drawing ch) m q0 (c ∷ cs) mss t ≡ Gkr.root Extension (Drawing ch) q0 c cs mss t
unfolding Gkr.counted
both_right ch m q0 c cs mss t a e = rw (eq-eqb (length cs) m a, eq-eqb (length mss) m e)

-- at a start
log_empty : {t : State} → Starts t → log_of t ≡ empty
log_empty {t} st = λ i. record { log = take (st.put i) t.buffer; used = st.used i }

-- a refusal that leaves all as it was
stops_first : (t : State) (ch : Source E.Ext) (v w : Model ch) (e : Refusal) → Starts t → v ≡ w → answer_of ch w ≡ Err e → point_of ch w ≡ [] → left_by ch w ≡ empty → Stops t t ch v e
stops_first t ch v w e st q a b c = stops_there ch v w e (no_steps t) (omega (arith, st.put)) q a b (c ∙ sym (log_empty st))

-- the size is observed where the proof binds it
abbrev pub Begins : (t t₁ : State) (size : Bool) (n : ℕ) → Type 0
Begins t t₁ size n = Steps t t₁ (cond size 4 0) 0 (bound size n (log_of t))

module _ (bs : List ℕ) (t : State) (ch : Source E.Ext) (n : ℕ) (o : Outline) (some : 1 ≤ n) (s : Shaped bs o) (st : Starts t) where
  abbrev m : ℕ
  m = n - 1

  n_is : n ≡ suc m
  n_is = omega arith

  -- the log that the run begins with
  abbrev begun : Words
  begun = bound (sized bs) n empty

  claims_long : length (map dec_claims (claims_from (count_of_layers bs) (drop 22 bs))) ≡ o.layers
  claims_long = map_length dec_claims (claims_from (count_of_layers bs) (drop 22 bs)) ∙ claims_count (count_of_layers bs) (drop 22 bs) ∙ sym s.layers

  polys_long : length (map (map dec_cubic) (entries_from (count_of_entries bs) (drop (polys_at bs) bs))) ≡ o.entries
  polys_long = map_length (map dec_cubic) (entries_from (count_of_entries bs) (drop (polys_at bs) bs)) ∙ entries_count (count_of_entries bs) (drop (polys_at bs) bs) ∙ sym s.entries

  pub layers_stop : (pt' : List ℕ) → (o.layers ≡ n → ⊥) → Counted bs pt' t t ch n (Err (IncorrectLayerCount n o.layers))
  layers_stop pt' h =
      stops_first t ch _ (layer_count n o.layers) _ st
      (verify_counted ch n m (decoded (proof_of bs)) begun n_is ∙ layers_differ ch m o.layers _ _ _ begun claims_long (λ q. h (q ∙ sym n_is)) ∙ ap (λ k. layer_count k o.layers) (sym n_is)) refl refl refl

  module _ (a : o.layers ≡ n) where
    first_claims : map dec_claims (claims_from (count_of_layers bs) (drop 22 bs)) ≡ dec_claims (claims_of (drop 22 bs)) ∷ map dec_claims (claims_from m (drop 86 bs))
    first_claims = ap (λ k. map dec_claims (claims_from k (drop 22 bs))) (sym s.layers ∙ a ∙ n_is) ∙ ap (map dec_claims) (claims_step m 22 bs)

    others_long : length (map dec_claims (claims_from m (drop 86 bs))) ≡ m
    others_long = map_length dec_claims (claims_from m (drop 86 bs)) ∙ claims_count m (drop 86 bs)

    counted_is : verdict bs n ch ≡ Gkr.counted Extension (Drawing ch) m (dec (elem (drop 5 bs))) (dec_claims (claims_of (drop 22 bs)) ∷ map dec_claims (claims_from m (drop 86 bs)))
        (map (map dec_cubic) (entries_from (count_of_entries bs) (drop (polys_at bs) bs))) begun
    counted_is = verify_counted ch n m (decoded (proof_of bs)) begun n_is ∙ ap (λ cs. Gkr.counted Extension (Drawing ch) m (dec (elem (drop 5 bs))) cs (map (map dec_cubic) (entries_from (count_of_entries bs) (drop (polys_at bs) bs))) begun) first_claims

    pub polys_stop : (pt' : List ℕ) (x : ℕ) → x ≡ m → (o.entries ≡ x → ⊥) → Counted bs pt' t t ch n (Err (IncorrectSumcheckPolyCount x o.entries))
    polys_stop pt' x e h =
        stops_first t ch _ (poly_count x o.entries) _ st
        (counted_is ∙ polys_differ ch m o.entries _ _ _ _ begun others_long polys_long (λ q. h (q ∙ sym e)) ∙ ap (λ k. poly_count k o.entries) (sym e)) refl refl refl

    module _ (b : o.entries ≡ m) where
      abbrev rooted : Words → Model ch
      rooted = Gkr.root Extension (Drawing ch) (dec (elem (drop 5 bs))) (dec_claims (claims_of (drop 22 bs))) (map dec_claims (claims_from m (drop 86 bs))) (map (map dec_cubic) (entries_from m (drop o.polys bs)))

      root_is : verdict bs n ch ≡ rooted begun
      root_is =
          counted_is ∙ both_right ch m _ _ _ _ begun others_long (polys_long ∙ b)
          ∙ ap₂ (λ k p. Gkr.root Extension (Drawing ch) (dec (elem (drop 5 bs))) (dec_claims (claims_of (drop 22 bs))) (map dec_claims (claims_from m (drop 86 bs))) (map (map dec_cubic) (entries_from k (drop p bs))) begun)
          (sym s.entries ∙ b) (sym s.polys)

      -- from where the size is observed, told from the start
      pub root_counted : (pt' : List ℕ) (t₁ t' : State) (size : Bool) {c : Source E.Ext} (r : Result Claimed Refusal) → size ≡ sized bs → Begins t t₁ size n → c ≡ ch → RootEnd bs pt' t₁ t' c o.polys n r → Counted bs pt' t t' ch n r
      root_counted pt' t₁ t' size r z g e h =
          let x : begun ≡ log_of t₁ = ap₂ (λ z u. bound z n u) (sym z) (sym (log_empty st)) ∙ sym g.log in
          ended_before g t' pt' n r (root_is ∙ ap rooted x) (subst (λ d. RootEnd bs pt' t₁ t' d o.polys n r) e h)

-- ---- what the run asks
module _ {bs pt : List ℕ} {t : State} {n : ℕ} {o : Outline} (r : Ready bs pt t n o) where
  abbrev k : ℕ
  k = n - 1

  k_is : n ≡ suc k
  k_is = omega (arith, r.some)

  -- the log has room for the run after the size
  pub ready_room : {t₁ : State} {size : Bool} → Starts t → size ≡ sized bs → Begins t t₁ size n → t₁.put + 24 + layers_cost 4 4 k 1 ≤ length t₁.buffer
  unfolding run_cost
  ready_room {size = size} st z s =
      let w = words k in
      let e : log_room true (sized bs) n ≡ log_room true (sized bs) (suc k) = ap (log_room true (sized bs)) k_is in
      let q : ◌≡◌ {A = ℕ} (cond size 4 0) (cond (sized bs) 4 0) = ap (λ b. cond b 4 0) z in
      omega (arith, w, e, q, r.log_room_fits, st.put, s.put, s.room)

  -- with all challenges of the run still to come
  pub ready_enough : {t₁ : State} (size : Bool) → Starts t → Begins t t₁ size n → Enough t₁ (1 + layers_cost 0 1 k 1)
  unfolding run_cost
  ready_enough size st s =
      let f : challenges n ≡ challenges (suc k) = ap challenges k_is in
      let lot : t.drawn ≡ false → 4 * challenges n ≤ length t.challenges = λ h. subst (λ b. needed_words b n ≤ length t.challenges) h r.chals in
      let all : Enough t (challenges n) =
      record { room = λ h. omega (arith, lot h, st.used); clean = λ _. r.clean; counted = omega (arith, st.put, st.used); absorbed = st.holds _ } in
      enough_after (challenges n) (omega arith) (omega (arith, draws k, f)) s all

  q0_part : all_canonical (ext_words (elem (drop 5 bs))) ≡ true
  q0_part = canonical_left (ext_words (elem (drop 5 bs))) (claims_words (proof_of bs).claims ++ polys_words (proof_of bs).polys) r.canon

  lists_part : all_canonical (claims_words (proof_of bs).claims ++ polys_words (proof_of bs).polys) ≡ true
  lists_part = canonical_right (ext_words (elem (drop 5 bs))) (claims_words (proof_of bs).claims ++ polys_words (proof_of bs).polys) r.canon

  pub ready_q0 : Canon (elem (drop 5 bs))
  ready_q0 = canonical_elem (elem (drop 5 bs)) q0_part

  module _ (a : o.layers ≡ n) (b : o.entries ≡ k) where
    claims_part : all_canonical (claims_words (claims_from (suc k) (drop 22 bs))) ≡ true
    claims_part =
        ap (λ j. all_canonical (claims_words (claims_from j (drop 22 bs)))) (sym (sym r.shaped.layers ∙ a ∙ k_is))
        ∙ canonical_left (claims_words (proof_of bs).claims) (polys_words (proof_of bs).polys) lists_part

    pub ready_claims : CanonClaims (claims_of (drop 22 bs))
    ready_claims = claim_first k 22 bs claims_part

    pub ready_there : 22 + 64 * n ≤ length bs
    ready_there = omega (arith, r.shaped.reads.room, r.shaped.layers, a)

    pub ready_read : Readable bs 86 o.polys k
    ready_read =
        let p = r.shaped.polys in
        let e : count_of_entries bs ≡ k = sym r.shaped.entries ∙ b in
        record {
          claims_there = omega (arith, r.shaped.reads.room, r.shaped.layers, a, r.some);
          claims_canon = claims_rest k 22 bs claims_part;
          polys_there = omega (arith, r.shaped.reads.room, p);
          polys_fit = ap₂ (λ j q. entries_fit j (drop q bs)) (sym e) p ∙ r.shaped.reads.fit;
          polys_canon = ap₂ (λ j q. all_canonical (polys_words (entries_from j (drop q bs)))) (sym e) p ∙ canonical_right (claims_words (proof_of bs).claims) (polys_words (proof_of bs).polys) lists_part;
        }
