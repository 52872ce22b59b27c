-- Transcripts: challenges from any source, over a log of events and over a log of words.
-- Assumes nothing.
use Rattle.std.specs.Prelude.{List, [], ◌∷◌, ◌++◌, map, ℕ, suc, ◌+◌, ◌^◌, get_or}
use Rattle.gkr.specs.Run.{Transcript}

-- A LOG OF EVENTS, the last one first

pub data Event (A : Type 0) : Type 0 where
  observed : A → Event A
  sampled : A → Event A

-- challenges that are any function of the log so far
abbrev pub logged : {A : Type 0} (source : List (Event A) → A) → Transcript A
logged {A} source = record {
  Log = List (Event A);
  observe = λ x t. observed x ∷ t;
  draw = source;
  drawn = λ t. sampled (source t) ∷ t;
}

-- how many challenges were sampled
abbrev pub count : {A : Type 0} (t : List (Event A)) → ℕ
count [] = 0
count (observed x ∷ t) = count t
count (sampled x ∷ t) = suc (count t)

-- challenges supplied beforehand, used in their order; `none` past their end
abbrev pub supplied : {A : Type 0} (challenges : List A) (none : A) → Transcript A
supplied challenges none = logged (λ t. get_or challenges (count t) none)

-- A LOG OF WORDS, in the order of writing

-- a sampled word is the value with its top bit set
abbrev pub mark : ℕ → ℕ
mark w = 2 ^ 31 + w

-- the words so far, and how many challenges were sampled
pub record Words : Type 0 where
  pub log : List ℕ
  pub used : ℕ

abbrev pub empty : Words
empty = record { log = []; used = 0 }

-- what gives the next challenge from the words so far
abbrev pub Source : (A : Type 0) → Type 0
Source A = Words → A

-- a log of words, with challenges from a source; `words x` is x as words
abbrev pub drawing : {A : Type 0} (words : A → List ℕ) (source : Source A) → Transcript A
drawing words source = record {
  Log = Words;
  observe = λ x t. record { log = t.log ++ words x; used = t.used };
  draw = source;
  drawn = λ t. record { log = t.log ++ map mark (words (source t)); used = suc t.used };
}
