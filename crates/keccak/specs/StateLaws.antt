-- The lanes' list tells the state: no second one has it. A state read from a list is the one that has its values, and the one whose list it is.
-- Assumes nothing.
use Rattle.std.specs.Prelude.{◌≡◌, refl, List, ℕ, get_or}
use Rattle.std.proofs.Common.{sym, ◌∙◌}
use Rattle.keccak.specs.Values.{values}
use Rattle.keccak.specs.State.{as_list, lanes_of}
use Rattle.keccak.specs.declared.Lanes.{Lanes}

pub lanes_unique : {s t : Lanes} {l : List ℕ} → as_list s ≡ l → as_list t ≡ l → s ≡ t
lanes_unique {s} {t} e f =
    let p : as_list s ≡ as_list t = e ∙ sym f in
    λ i.
    record {
      a0 = get_or (p i) 0 0;
      a1 = get_or (p i) 1 0;
      a2 = get_or (p i) 2 0;
      a3 = get_or (p i) 3 0;
      a4 = get_or (p i) 4 0;
      a5 = get_or (p i) 5 0;
      a6 = get_or (p i) 6 0;
      a7 = get_or (p i) 7 0;
      a8 = get_or (p i) 8 0;
      a9 = get_or (p i) 9 0;
      a10 = get_or (p i) 10 0;
      a11 = get_or (p i) 11 0;
      a12 = get_or (p i) 12 0;
      a13 = get_or (p i) 13 0;
      a14 = get_or (p i) 14 0;
      a15 = get_or (p i) 15 0;
      a16 = get_or (p i) 16 0;
      a17 = get_or (p i) 17 0;
      a18 = get_or (p i) 18 0;
      a19 = get_or (p i) 19 0;
      a20 = get_or (p i) 20 0;
      a21 = get_or (p i) 21 0;
      a22 = get_or (p i) 22 0;
      a23 = get_or (p i) 23 0;
      a24 = get_or (p i) 24 0;
    }

pub lanes_read : {s : Lanes} (ls : List ℕ) → as_list s ≡ values (λ i. get_or ls i 0) 0 25 → s ≡ lanes_of ls
lanes_read ls e = lanes_unique e refl

pub lanes_of_list : (s : Lanes) → lanes_of (as_list s) ≡ s
lanes_of_list s = refl
