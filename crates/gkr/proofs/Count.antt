-- How long the prover's point is, what shape its proof has, and how many observations and challenges it takes.
-- Assumes nothing.
use Rattle.std.specs.Prelude.{◌≡◌, Bool, cond}
use Rattle.std.proofs.Math.Path.{refl, sym, ap, ap₂}
use Rattle.std.proofs.Common.{◌∙◌}
use Rattle.std.proofs.Math.Bool.{true, false}
use mathlib.Core.List.{List, ◌∷◌, map}
use Prim.Native.Nat.{ℕ, zero, suc, ◌+◌, ◌*◌, ◌-◌, ◌/◌}
use native.Mathlib.Omega.{arith}
use Rattle.std.proofs.Math.ListN.{length}
use Rattle.ring.specs.Field.{Field}
use Rattle.multilinear.specs.RoundSum.{Claims}
use Rattle.gkr.specs.Run.{Transcript, Frac, Cubic}
use Rattle.gkr.specs.Sizes.{challenges, log_words, proof_bytes}
use Rattle.gkr.specs.Tree
use Rattle.gkr.specs.Sumcheck
use Rattle.gkr.specs.Gkr
use Rattle.gkr.specs.Gkr.{done, non_zero_root_sum}
use Rattle.gkr.specs.Count.{layers_cost, run_cost, lengths, entry_bytes}

words_cost : (h r : ℕ) → layers_cost 4 4 h r ≡ 16 * h + 16 * (r * h) + 8 * (h * h)
unfolding layers_cost
words_cost zero r = omega arith
words_cost (suc h) r = omega (arith, words_cost h (suc r))

draws_cost : (h r : ℕ) → 2 * layers_cost 0 1 h r ≡ 3 * h + 2 * (r * h) + h * h
unfolding layers_cost
draws_cost zero r = omega arith
draws_cost (suc h) r = omega (arith, draws_cost h (suc r))

less : (m : ℕ) → suc m - 1 ≡ m
less m = omega arith

-- in words of the log, and in challenges
pub words : (m : ℕ) → run_cost 4 4 m ≡ log_words true (suc m)
unfolding run_cost
words m = omega (arith, words_cost m 1)

pub draws : (m : ℕ) → run_cost 0 1 m ≡ challenges (suc m)
unfolding run_cost
draws m = omega (arith, draws_cost m 1) ∙ ap (λ k. 2 * suc m - 1 + suc m * k / 2) (sym (less m))

entries_cost : (h r : ℕ) → entry_bytes (lengths h r) + 24 * h ≡ h + 48 * (r * h) + 24 * (h * h)
unfolding entry_bytes lengths
entries_cost zero r = omega arith
entries_cost (suc h) r = omega (arith, entries_cost h (suc r))

-- version, length, q0 and both counts are 23 bytes; then 64 for each layer, and the entries
pub proof_size : (m : ℕ) → 23 + 64 * suc m + entry_bytes (lengths m 1) ≡ proof_bytes (suc m)
proof_size m = omega (arith, entries_cost m 1) ∙ ap (λ k. 22 + 65 * suc m + 24 * (suc m * k)) (sym (less m))

module _ (F : Field) (S : Transcript F.ring.carrier) where
  open F.ring use {carrier as R}
  open S use {Log, observe, draw, drawn}

  -- THE SHAPE

  sub_point : (k : ℕ) (lambda : R) (eq : ℕ → R) (pq : ℕ → Claims R) (t : Log) → length (Sumcheck.send F S k lambda eq pq t).point ≡ k
  unfolding Sumcheck.send
  sub_point zero lambda eq pq t = refl
  sub_point (suc k) lambda eq pq t = ap suc (sub_point k lambda _ _ _)

  sub_polys : (k : ℕ) (lambda : R) (eq : ℕ → R) (pq : ℕ → Claims R) (t : Log) → length (Sumcheck.send F S k lambda eq pq t).polys ≡ k
  unfolding Sumcheck.send
  sub_polys zero lambda eq pq t = refl
  sub_polys (suc k) lambda eq pq t = ap suc (sub_polys k lambda _ _ _)

  send_point : (f : ℕ → Frac R) (h : ℕ) (xi : List R) (t : Log) → length (Gkr.send F S f h xi t).point ≡ h + length xi
  unfolding Gkr.send
  send_point f zero xi t = omega arith
  send_point f (suc h) xi t = send_point f h _ _ ∙ ap (λ n. h + suc n) (sub_point (length xi) _ _ _ _) ∙ omega arith

  -- as many claims and polynomial entries as layers
  pub send_counts : (f : ℕ → Frac R) (h : ℕ) (xi : List R) (t : Log) → let P = Gkr.send F S f h xi t in (length P.claims ≡ h) × (length P.polys ≡ h)
  unfolding Gkr.send
  send_counts f zero xi t = (refl, refl)
  send_counts f (suc h) xi t = let ih = send_counts f h _ _ in (ap suc ih.0, ap suc ih.1)

  send_polys : (f : ℕ → Frac R) (h : ℕ) (xi : List R) (t : Log) → map length (Gkr.send F S f h xi t).polys ≡ lengths h (length xi)
  unfolding Gkr.send lengths
  send_polys f zero xi t = refl
  send_polys f (suc h) xi t =
      ap₂ ◌∷◌ (sub_polys (length xi) _ _ _ _) (send_polys f h _ _ ∙ ap (λ n. lengths h (suc n)) (sub_point (length xi) _ _ _ _))

  pub point_length : (m : ℕ) (f : ℕ → Frac R) (t : Log) → length (Gkr.run F S m f t).point ≡ suc m
  unfolding Gkr.run
  point_length m f t = send_point f m _ _ ∙ omega arith

  -- n layers' claims, and 1, 2, .. n - 1 sub-rounds
  pub claims_length : (m : ℕ) (f : ℕ → Frac R) (t : Log) → length (Gkr.run F S m f t).proof.claims ≡ suc m
  unfolding Gkr.run
  claims_length m f t = ap suc (send_counts f m _ _).0

  pub polys_lengths : (m : ℕ) (f : ℕ → Frac R) (t : Log) → map length (Gkr.run F S m f t).proof.polys ≡ lengths m 1
  unfolding Gkr.run
  polys_lengths m f t = send_polys f m _ _

  -- THE ANSWER

  -- the log that the run begins with: root p is observed only when zero is not asserted
  abbrev pub start : (asserted : Bool) (m : ℕ) (f : ℕ → Frac R) (t : Log) → Log
  start asserted m f t = cond asserted t (observe (Tree.tree F.ring f (suc m) 0).p t)

  proved : Gkr.Proved F S → Gkr.Answer F S → Gkr.Proved F S
  proved P (done Q) = Q
  proved P non_zero_root_sum = P

  -- what is done is that run
  pub done_run : (asserted : Bool) (m : ℕ) (f : ℕ → Frac R) (t : Log) (P : Gkr.Proved F S)
      → Gkr.fractional_sumcheck F S asserted m f t ≡ done P → P ≡ Gkr.run F S m f (start asserted m f t)
  unfolding Gkr.fractional_sumcheck proved
  done_run false m f t P e = sym (ap (proved P) e)
  done_run true m f t P e = sym (ap (proved (Gkr.run F S m f t)) e) ∙ go (F.same (Tree.tree F.ring f (suc m) 0).p F.ring.nil)
    where
      go : (b : Bool) → proved (Gkr.run F S m f t) (cond b (done (Gkr.run F S m f t)) non_zero_root_sum) ≡ Gkr.run F S m f t
      go true = refl
      go false = refl

  pub done_point : (asserted : Bool) (m : ℕ) (f : ℕ → Frac R) (t : Log) (P : Gkr.Proved F S)
      → Gkr.fractional_sumcheck F S asserted m f t ≡ done P → length P.point ≡ suc m
  done_point asserted m f t P e = ap (λ Q. length Q.point) (done_run asserted m f t P e) ∙ point_length m f _

  -- THE COST: a size of the log that grows by o at an observation and by d at a challenge

  module _ (size : Log → ℕ) (o d : ℕ) (more : (x : R) (t : Log) → size (observe x t) ≡ size t + o) (drew : (t : Log) → size (drawn t) ≡ size t + d) where
    pub cubic_size : (s : Cubic R) (t : Log) → size (Sumcheck.observe_cubic F S s t) ≡ size t + 3 * o
    cubic_size s t = more _ _ ∙ ap (λ n. n + o) (more _ _ ∙ ap (λ n. n + o) (more _ t)) ∙ omega arith

    pub claims_size : (c : Claims R) (t : Log) → size (Gkr.observe_layer_claims F S c t) ≡ size t + 4 * o
    claims_size c t = more _ _ ∙ ap (λ n. n + o) (more _ _ ∙ ap (λ n. n + o) (more _ _ ∙ ap (λ n. n + o) (more _ t))) ∙ omega arith

    sub_size : (k : ℕ) (lambda : R) (eq : ℕ → R) (pq : ℕ → Claims R) (t : Log) → size (Sumcheck.send F S k lambda eq pq t).log ≡ size t + k * (3 * o + d)
    unfolding Sumcheck.send
    sub_size zero lambda eq pq t = omega arith
    sub_size (suc k) lambda eq pq t = sub_size k lambda _ _ _ ∙ ap (λ n. n + k * (3 * o + d)) (drew _ ∙ ap (λ n. n + d) (cubic_size _ t)) ∙ omega arith

    send_size : (f : ℕ → Frac R) (h : ℕ) (xi : List R) (t : Log) → size (Gkr.send F S f h xi t).log ≡ size t + layers_cost o d h (length xi)
    unfolding Gkr.send layers_cost
    send_size f zero xi t = omega arith
    send_size f (suc h) xi t =
        send_size f h _ _
        ∙ ap₂ (λ n r. n + layers_cost o d h (suc r))
        (drew _ ∙ ap (λ n. n + d) (claims_size _ _ ∙ ap (λ n. n + 4 * o) (sub_size (length xi) _ _ _ _ ∙ ap (λ n. n + length xi * (3 * o + d)) (drew t))))
        (sub_point (length xi) _ _ _ _)
        ∙ omega arith

    pub run_size : (m : ℕ) (f : ℕ → Frac R) (t : Log) → size (Gkr.run F S m f t).log ≡ size t + run_cost o d m
    unfolding Gkr.run run_cost
    run_size m f t =
        send_size f m _ _
        ∙ ap (λ n. n + layers_cost o d m 1) (drew _ ∙ ap (λ n. n + d) (claims_size _ _ ∙ ap (λ n. n + 4 * o) (more _ t)))
        ∙ omega arith

    -- and of either run of the prover: root p is one observation more
    pub answer_size : (asserted : Bool) (m : ℕ) (f : ℕ → Frac R) (t : Log) (P : Gkr.Proved F S)
        → Gkr.fractional_sumcheck F S asserted m f t ≡ done P → size P.log ≡ size t + run_cost o d m + cond asserted 0 o
    answer_size asserted m f t P e = ap (λ Q. size Q.log) (done_run asserted m f t P e) ∙ run_size m f _ ∙ go asserted
      where
        go : (b : Bool) → size (start b m f t) + run_cost o d m ≡ size t + run_cost o d m + cond b 0 o
        go true = omega arith
        go false = ap (λ n. n + run_cost o d m) (more _ t) ∙ omega arith
