-- An honest proof has as many bytes as document 01 says.
-- Assumes nothing.
use mathlib.Core.Path.{◌≡◌, refl, sym, ◌∙◌, ap, ap₂}
use mathlib.Core.Bool.{Bool}
use mathlib.Core.List.{List, [], ◌∷◌, map}
use Prim.Native.Nat.{ℕ, zero, suc, ◌-◌}
use native.Mathlib.Omega.{arith}
use lib.ListN.{length, length-map}
use Rattle.field.specs.Ext as E
use Rattle.field.specs.Element.{enc}
use Rattle.field.specs.Extension.{Extension}
use Rattle.gkr.specs.Run.{Transcript, Frac, Cubic, Proof}
use Rattle.gkr.specs.Sizes.{proof_bytes}
use Rattle.gkr.proofs.Count as Count
use Rattle.gkr.specs.Count.{lengths as counted}
use Rattle.gkr.specs.Gkr as Gkr
use Rattle.stored.specs.Layout.{layout}
use Rattle.stored.specs.Lengths.{up_from, lengths, Rounds}
use Rattle.stored.proofs.Lengths.{rounds_size}
use Rattle.stored.specs.Elements.{map_claims, map_cubic, encoded}

counts : (mss : List (List (Cubic E.Ext))) → lengths (map (map (map_cubic enc)) mss) ≡ map length mss
unfolding lengths
counts [] = refl
counts (ms ∷ mss) = ap₂ ◌∷◌ (length-map ms (map_cubic enc)) (counts mss)

upward : (h r : ℕ) → counted h r ≡ up_from r h
unfolding counted up_from
upward zero r = refl
upward (suc h) r = ap (λ l. r ∷ l) (upward h (suc r))

module _ (S : Transcript E.Ext) (m : ℕ) (f : ℕ → Frac E.Ext) (t : S.Log) where
  abbrev π : Proof E.Ext
  π = (Gkr.run Extension S m f t).proof

  shape : Rounds (suc m) (encoded π)
  shape =
      let z : suc m - 1 ≡ m = omega arith in
      record {
        layers = length-map π.claims (map_claims enc) ∙ Count.claims_length Extension S m f t;
        subrounds = counts π.polys ∙ Count.polys_lengths Extension S m f t ∙ upward m 1 ∙ ap (up_from 1) (sym z);
      }

  pub honest_size : (sized : Bool) → length (layout sized (encoded π)) ≡ proof_bytes (suc m)
  honest_size sized = rounds_size sized (suc m) (encoded π) (omega arith) shape
