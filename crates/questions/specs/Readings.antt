-- What a question means by its operators, each of which comes after its operands.
use Rattle.std.specs.Prelude.{◌≡◌, ℕ, ◌^◌, ◌<◌, Bool, false, not, ◌&&◌, ◌||◌, List, [], ◌∷◌, ◌++◌, None}
use Rattle.words.specs.declared.word.WordKind.TheVariants.{Name, And, Or, Not, All, Nothing}
use Rattle.words.specs.Words.{word_of}
use Rattle.questions.specs.Questions.{holds, question_refusal}

-- at one place, given in which names' values it is and whether it is in all:
-- the words are a question, and this is whether the place is in its value
pub data Reads (named : ℕ → Bool) (all : Bool) : List ℕ → Bool → Type 0 where
  name : (k : ℕ) → k < 2 ^ 28 → Reads named all (word_of Name k ∷ []) (named k)
  whole : Reads named all (word_of All 0 ∷ []) all
  nothing : Reads named all (word_of Nothing 0 ∷ []) false
  lack : {us : List ℕ} {x : Bool} → Reads named all us x → Reads named all (us ++ word_of Not 0 ∷ []) (all && not x)
  meet : {us vs : List ℕ} {x y : Bool} → Reads named all us x → Reads named all vs y → Reads named all (us ++ vs ++ word_of And 0 ∷ []) (x && y)
  join : {us vs : List ℕ} {x y : Bool} → Reads named all us x → Reads named all vs y → Reads named all (us ++ vs ++ word_of Or 0 ∷ []) (x || y)

-- the words read as this value, and as no other
pub record ReadsOnly (named : ℕ → Bool) (all : Bool) (words : List ℕ) (value : Bool) : Type 0 where
  pub reading : Reads named all words value
  pub only : (v : Bool) → Reads named all words v → v ≡ value

-- a question that is not refused reads as its value only
abbrev pub QuestionRead : Type 0
QuestionRead =
    (standing named : ℕ → Bool) (all : Bool) (words : List ℕ) →
    question_refusal standing words ≡ None →
    ReadsOnly named all words (holds named all [] words)
