-- The search for a sub-round's layer, entry by entry: it goes on, stops, or finds no entry more.
-- Assumes nothing.
use mathlib.Core.Path.{◌≡◌}
use mathlib.Core.List.{List}
use Prim.Native.Nat.{ℕ, suc, ◌+◌, ◌-◌, ◌<◌, ◌≤◌}
use native.Mathlib.Numerals.{add-one}
use borrow.Author.Tests.{lt-ltb, le-ltb}
use lib.ListN.{length, get_or, drop, drop_of_length-le}
use lib.Seq.{drop-cons}
use Rattle.command_text.specs.Places.{layer_from}

module _ (cs : List ℕ) (e s : ℕ) where
  pub entry_go : e < length cs → get_or cs e 0 ≤ s → layer_from (e + 1) (drop e cs) s ≡ layer_from (e + 1 + 1) (drop (e + 1) cs) (s - get_or cs e 0)
  unfolding layer_from
  entry_go h l = rw (add-one e, add-one (suc e), drop-cons cs e 0 h, le-ltb s (get_or cs e 0) l)

  pub entry_stop : e < length cs → s < get_or cs e 0 → layer_from (e + 1) (drop e cs) s ≡ record { layer = e + 1; subround = s }
  unfolding layer_from
  entry_stop h l = rw (drop-cons cs e 0 h, lt-ltb s (get_or cs e 0) l)

  pub entry_end : length cs ≤ e → layer_from (e + 1) (drop e cs) s ≡ record { layer = e + 1; subround = s }
  unfolding layer_from
  entry_end h = rw (drop_of_length-le cs h)
