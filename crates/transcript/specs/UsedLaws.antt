-- No word of an element is taken for a sampled one: it is below the prime, and its top bit is not set.
-- Assumes nothing.
use Rattle.std.specs.Prelude.{◌≡◌, cond, List, [], ◌∷◌, ℕ, ◌<◌, ◌^◌}
use Rattle.std.proofs.Common.{ap, ◌∙◌, arith}
use Rattle.std.proofs.lemmas.Bool.{lt-leb}
use Rattle.field.specs.Base.{P}
use Rattle.field.specs.Ext as E
use Rattle.field.specs.Element.{words}
use Rattle.field.specs.ElementLaws.{canon_enc}
use Rattle.gkr.specs.TranscriptLaws.{sampled_words}

passed_over : (w : ℕ) (ws : List ℕ) → w < P → sampled_words (w ∷ ws) ≡ sampled_words ws
unfolding sampled_words
passed_over w ws h = ap (λ t. cond t (w ∷ sampled_words ws) (sampled_words ws)) (lt-leb (2 ^ 31) w (omega (arith, h)))

pub unmarked : (x : E.Ext) → sampled_words (words x) ≡ []
unfolding sampled_words
unmarked x =
    let c = canon_enc x in
    passed_over x.c0.val (x.c1.val ∷ x.c2.val ∷ x.c3.val ∷ []) c.c0
    ∙ passed_over x.c1.val (x.c2.val ∷ x.c3.val ∷ []) c.c1
    ∙ passed_over x.c2.val (x.c3.val ∷ []) c.c2
    ∙ passed_over x.c3.val [] c.c3
