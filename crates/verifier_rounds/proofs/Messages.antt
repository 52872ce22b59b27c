-- Canonical words of the messages, one message after the other.
-- Assumes nothing.
use mathlib.Core.Path.{◌≡◌, sym, ◌∙◌, ap}
use mathlib.Core.Bool.{true}
use mathlib.Core.List.{List, ◌++◌}
use Prim.Native.Nat.{ℕ, suc, ◌+◌, ◌*◌}
use lib.ListN.{get_or, drop}
use Rattle.field.specs.declared.Ext.{Ext}
use Rattle.wire.specs.Words.{all_canonical}
use Rattle.wire.specs.WordLaws.{canonical_left, canonical_right}
use Rattle.stored.specs.Layout.{claim_words, cubic_words, claims_words, cubics_words, polys_words}
use Rattle.stored.specs.Parse.{claims_of, cubic_of, claims_from, cubics_from, entries_from}
use Rattle.stored.specs.ParseLaws.{claims_step, cubics_step, entries_step}
use Rattle.gkr.specs.Run.{Cubic}
use Rattle.stored.specs.ReadWords.{CanonClaims, CanonCubic}
use Rattle.stored.proofs.ReadWords.{claim_canonical, cubic_canonical}

-- the first, and the rest
module _ (n at : ℕ) (bs : List ℕ) where
  cubics_split : cubics_words (cubics_from (suc n) (drop at bs)) ≡ cubic_words (cubic_of (drop at bs)) ++ cubics_words (cubics_from n (drop (at + 48) bs))
  unfolding cubics_words
  cubics_split = ap cubics_words (cubics_step n at bs)

  pub cubic_first : all_canonical (cubics_words (cubics_from (suc n) (drop at bs))) ≡ true → CanonCubic (cubic_of (drop at bs))
  cubic_first h = cubic_canonical (cubic_of (drop at bs)) (canonical_left (cubic_words (cubic_of (drop at bs))) (cubics_words (cubics_from n (drop (at + 48) bs))) (ap all_canonical (sym cubics_split) ∙ h))

  pub cubics_rest : all_canonical (cubics_words (cubics_from (suc n) (drop at bs))) ≡ true → all_canonical (cubics_words (cubics_from n (drop (at + 48) bs))) ≡ true
  cubics_rest h = canonical_right (cubic_words (cubic_of (drop at bs))) (cubics_words (cubics_from n (drop (at + 48) bs))) (ap all_canonical (sym cubics_split) ∙ h)

  claims_split : claims_words (claims_from (suc n) (drop at bs)) ≡ claim_words (claims_of (drop at bs)) ++ claims_words (claims_from n (drop (at + 64) bs))
  unfolding claims_words
  claims_split = ap claims_words (claims_step n at bs)

  pub claim_first : all_canonical (claims_words (claims_from (suc n) (drop at bs))) ≡ true → CanonClaims (claims_of (drop at bs))
  claim_first h = claim_canonical (claims_of (drop at bs)) (canonical_left (claim_words (claims_of (drop at bs))) (claims_words (claims_from n (drop (at + 64) bs))) (ap all_canonical (sym claims_split) ∙ h))

  pub claims_rest : all_canonical (claims_words (claims_from (suc n) (drop at bs))) ≡ true → all_canonical (claims_words (claims_from n (drop (at + 64) bs))) ≡ true
  claims_rest h = canonical_right (claim_words (claims_of (drop at bs))) (claims_words (claims_from n (drop (at + 64) bs))) (ap all_canonical (sym claims_split) ∙ h)

  abbrev entry : List (Cubic Ext)
  entry = cubics_from (get_or bs at 0) (drop (at + 1) bs)

  abbrev others : List (List (Cubic Ext))
  others = entries_from n (drop (at + 1 + 48 * get_or bs at 0) bs)

  polys_split : polys_words (entries_from (suc n) (drop at bs)) ≡ cubics_words entry ++ polys_words others
  unfolding polys_words
  polys_split = ap polys_words (entries_step n at bs)

  pub entry_first : all_canonical (polys_words (entries_from (suc n) (drop at bs))) ≡ true → all_canonical (cubics_words entry) ≡ true
  entry_first h = canonical_left (cubics_words entry) (polys_words others) (ap all_canonical (sym polys_split) ∙ h)

  pub entries_rest : all_canonical (polys_words (entries_from (suc n) (drop at bs))) ≡ true → all_canonical (polys_words others) ≡ true
  entries_rest h = canonical_right (cubics_words entry) (polys_words others) (ap all_canonical (sym polys_split) ∙ h)
