-- No second answer fits: the words of fractions, entries and three values are those of their elements.
-- Assumes nothing.
use Rattle.std.specs.Prelude.{◌≡◌}
use Rattle.field.specs.Ext as E
use Rattle.field.specs.Element.{Is}
use Rattle.field.specs.ElementLaws.{is_unique}
use Rattle.multilinear.specs.RoundSum.{Claims}
use Rattle.gkr.specs.Run.{Frac}
use Rattle.step.specs.declared.Frac.{Frac as FracW}
use Rattle.step.specs.declared.Entry.{Entry as EntryW}
use Rattle.step.specs.declared.Three.{Three as ThreeW}
use Rattle.step.specs.declared.Doubled.{Doubled as DoubledW}
use Rattle.step.specs.Values.{IsFrac, IsEntry, IsThree}

pub frac_unique : {r s : FracW} {x : Frac E.Ext} → IsFrac r x → IsFrac s x → r ≡ s
frac_unique h k = λ i. record { p = is_unique h.p k.p i; q = is_unique h.q k.q i }

pub entry_unique : {r s : EntryW} {x : E.Ext} {c : Claims E.Ext} → IsEntry r x c → IsEntry s x c → r ≡ s
entry_unique h k = λ i. record { e = is_unique h.e k.e i; l = frac_unique h.l k.l i; r = frac_unique h.r k.r i }

pub three_unique : {r s : ThreeW} {a b c : E.Ext} → IsThree r a b c → IsThree s a b c → r ≡ s
three_unique h k = λ i. record { s1 = is_unique h.s1 k.s1 i; s2 = is_unique h.s2 k.s2 i; s3 = is_unique h.s3 k.s3 i }

pub doubled_unique : {r s : DoubledW} {a b : E.Ext} → Is r.low a × Is r.high b → Is s.low a × Is s.high b → r ≡ s
doubled_unique h k = λ i. record { low = is_unique h.0 k.0 i; high = is_unique h.1 k.1 i }
