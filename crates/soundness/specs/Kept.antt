-- A transcript whose log keeps all that was observed and sampled.
-- Assumes nothing.
use Rattle.std.specs.Prelude.{◌≡◌, List, [], ◌∷◌, ◌++◌}
use Rattle.gkr.specs.Run.{Transcript}

-- the elements can be read off a whole log, in their order; and which logs go on from which
pub record Keeps {A : Type 0} (S : Transcript A) : Type 1 where
  pub Whole : S.Log → Type 0
  pub read : S.Log → List A
  pub observes : (x : A) (t : S.Log) → Whole t → Whole (S.observe x t) × (read (S.observe x t) ≡ read t ++ (x ∷ []))
  pub draws : (t : S.Log) → Whole t → Whole (S.drawn t) × (read (S.drawn t) ≡ read t ++ (S.draw t ∷ []))
  pub Past : S.Log → S.Log → Type 0
  pub itself : (t : S.Log) → Past t t
  pub before_observing : (x : A) (u t : S.Log) → Past (S.observe x u) t → Past u t
  pub before_drawing : (u t : S.Log) → Past (S.drawn u) t → Past u t
