-- The whole proof, put together from the header, the front and the back; and the proof of no rows.
-- Assumes nothing.
use mathlib.Core.Path.{◌≡◌, sym, ◌∙◌, ap, ap₂, subst}
use mathlib.Core.Bool.{Bool, false}
use mathlib.Core.List.{List, [], ◌∷◌, ◌++◌, append_assoc}
use Prim.Native.Nat.{ℕ, suc, ◌+◌, ◌*◌, ◌-◌, ◌≤◌}
use native.Mathlib.Omega.{arith}
use lib.ListN.{length, drop, length-append}
use Rattle.field.specs.Base.{of, one, nil}
use Rattle.field.specs.Ext as E
use Rattle.field.specs.Element.{enc}
use Rattle.field.specs.Cells.{cell}
use Rattle.wire.specs.Bytes.{be4, bytes_of}
use Rattle.wire.specs.Words.{ext_words}
use Rattle.wire.specs.Written.{Wrote}
use Rattle.wire.specs.WrittenLaws.{wrote_then, wrote_front}
use Rattle.stored.specs.Layout.{claim_words, claims_words, entries_bytes, body, version_of, layout}
use Rattle.stored.specs.Lengths.{Rounds, proof_size}
use Rattle.stored.proofs.Lengths.{rounds_size}
use Rattle.stored_writer.specs.Messages.{stored_claims, stored_layers, stored_entries, stored_proof, no_rows}
use Rattle.stored_writer.proofs.PutLaws.{layers_count, layers_length, entries_shape, entries_count}

module _ (lg : List ℕ) (i n : ℕ) where
  abbrev pub front : List ℕ
  front = ((bytes_of (ext_words (enc (cell lg i))) ++ (n ∷ [])) ++ bytes_of (claim_words (stored_claims lg (i + 1)))) ++ bytes_of (claims_words (stored_layers lg (i + 6) 1 (n - 1)))

  abbrev pub back : List ℕ
  back = (n - 1) ∷ entries_bytes (stored_entries lg (i + 6) 1 (n - 1))

  module _ (g : 1 ≤ n) where
    body_form : front ++ back ≡ body (stored_proof lg i (n - 1))
    unfolding bytes_of claims_words
    body_form =
        let Q = bytes_of (ext_words (enc (cell lg i))) in
        let C = bytes_of (claim_words (stored_claims lg (i + 1))) in
        let L = bytes_of (claims_words (stored_layers lg (i + 6) 1 (n - 1))) in
        let B = entries_bytes (stored_entries lg (i + 6) 1 (n - 1)) in
        let a : n ≡ suc (length (stored_layers lg (i + 6) 1 (n - 1))) = omega (arith, layers_count lg (i + 6) 1 (n - 1)) in
        ap₂ (λ (k m : ℕ). Q ++ (k ∷ (C ++ (L ++ (m ∷ B))))) a (sym (entries_count lg (i + 6) 1 (n - 1)))

    shape : Rounds n (stored_proof lg i (n - 1))
    shape = record { layers = omega (arith, layers_count lg (i + 6) 1 (n - 1)); subrounds = entries_shape lg (i + 6) 1 (n - 1) }

    pub whole_size : (v : Bool) → length (layout v (stored_proof lg i (n - 1))) ≡ proof_size n
    whole_size v = rounds_size v n (stored_proof lg i (n - 1)) g shape

    body_size : 5 + length (body (stored_proof lg i (n - 1))) ≡ proof_size n
    unfolding layout
    body_size = omega (arith, whole_size false)

    pub front_size : length front ≡ 64 * n + 17
    unfolding bytes_of
    front_size =
        let F = (bytes_of (ext_words (enc (cell lg i))) ++ (n ∷ [])) ++ bytes_of (claim_words (stored_claims lg (i + 1))) in
        omega (arith, length-append F (bytes_of (claims_words (stored_layers lg (i + 6) 1 (n - 1)))), layers_length lg (i + 6) 1 (n - 1))

    pub back_size : length (entries_bytes (stored_entries lg (i + 6) 1 (n - 1))) + 1 + (64 * n + 17) + 5 ≡ proof_size n
    back_size = omega (arith, body_size, ap length body_form, length-append front back, front_size)

    pub proof_form : (v : Bool) (l0 l1 l2 l3 : List ℕ) (s a b c : ℕ) → s + 5 ≡ proof_size n → Wrote l0 l1 0 a (version_of v ∷ be4 s) → Wrote l1 l2 a b front → Wrote l2 l3 b c back
        → (c ≡ proof_size n) × (l3 ≡ layout v (stored_proof lg i (n - 1)) ++ drop (proof_size n) l0)
    unfolding layout
    proof_form v l0 l1 l2 l3 s a b c z x y w =
        let e : s ≡ length (body (stored_proof lg i (n - 1))) = omega (arith, z, body_size) in
        let p = wrote_then l0 l1 l2 0 a b (version_of v ∷ be4 s) front x y in
        let q = wrote_then l0 l2 l3 0 b c ((version_of v ∷ be4 s) ++ front) back p w in
        let f : ((version_of v ∷ be4 s) ++ front) ++ back ≡ layout v (stored_proof lg i (n - 1)) =
        append_assoc (version_of v ∷ be4 s) front back ∙ ap₂ (λ (k : ℕ) (l : List ℕ). version_of v ∷ (be4 k ++ l)) e body_form in
        let t = subst (Wrote l0 l3 0 c) f q in
        (omega (arith, t.ends, whole_size v), wrote_front l0 l3 c (layout v (stored_proof lg i (n - 1))) t ∙ ap (λ k. layout v (stored_proof lg i (n - 1)) ++ drop k l0) (whole_size v))

pub empty_form : (v : Bool) (l0 l1 l2 l3 l4 : List ℕ) (a b c d : ℕ) → Wrote l0 l1 0 a (version_of v ∷ be4 18) → Wrote l1 l2 a b (bytes_of (ext_words (record { c0 = 1; c1 = 0; c2 = 0; c3 = 0 })))
    → Wrote l2 l3 b c (0 ∷ []) → Wrote l3 l4 c d (0 ∷ []) → (d ≡ 23) × (l4 ≡ layout v no_rows ++ drop 23 l0)
unfolding layout bytes_of claims_words entries_bytes E.one E.emb one of nil
empty_form v l0 l1 l2 l3 l4 a b c d x y z w =
    let Q = bytes_of (ext_words (record { c0 = 1; c1 = 0; c2 = 0; c3 = 0 })) in
    let p = wrote_then l0 l1 l2 0 a b (version_of v ∷ be4 18) Q x y in
    let q = wrote_then l0 l2 l3 0 b c ((version_of v ∷ be4 18) ++ Q) (0 ∷ []) p z in
    let r = wrote_then l0 l3 l4 0 c d (((version_of v ∷ be4 18) ++ Q) ++ (0 ∷ [])) (0 ∷ []) q w in
    (r.ends, wrote_front l0 l4 d (layout v no_rows) r)
