-- Document 01's table K1 to K10 holds, by computation.
-- Assumes nothing.
use mathlib.Core.Path.{refl}
use Rattle.field.specs.ExtRing.{arithmetic}
use Rattle.field.specs.Element.{words_of_point}
use Rattle.field.specs.Cells.{cell}
use Rattle.gkr.specs.Compute.{model}
use Rattle.refusal.specs.Tests.{first_of}
use Rattle.wire.specs.Words.{all_canonical}
use Rattle.wire.specs.Bytes.{bytes_of, word}
use Rattle.stored.specs.Layout.{claims_words, cubics_words, polys_words, entries_bytes, layout}
use Rattle.stored.specs.Elements.{over_zero}
use Rattle.stored.specs.Parse.{claims_from, cubics_from, entries_from, entries_fit, fits}
use Rattle.sizes.specs.Sizes.{rounds_from, is_size}
use Rattle.prover_gate.specs.Refusals.{short_room, degenerate, lowest, first_refusal}
use Rattle.prover.specs.Proved as Prover
use Rattle.verifier.specs.Verified as Verifier
use Rattle.agreement.specs.KTable.{Holds, k1_to_k10}

pub all_hold : Holds k1_to_k10
unfolding model arithmetic cell all_canonical bytes_of word claims_words cubics_words polys_words entries_bytes layout claims_from cubics_from entries_from entries_fit fits over_zero rounds_from is_size short_room degenerate lowest first_of first_refusal words_of_point Prover.fronts Prover.proved Verifier.verified
all_hold = (refl, (refl, (refl, (refl, (refl, (refl, (refl, (refl, (refl, (refl, (refl, (refl, (refl, (refl, (refl, (refl, (refl, (refl, (refl, (refl, (refl, (refl, (refl, (refl, (refl, (refl, (refl, tt)))))))))))))))))))))))))))
