-- What the value of a question that is not refused hangs on, and what it lies within.
use Rattle.std.specs.Prelude.{◌≡◌, ℕ, Bool, true, List, [], None}
use Rattle.questions.specs.Questions.{holds, question_refusal}

-- it hangs on the values of the kinds that stand alone
abbrev pub HangsOnStanding : Type 0
HangsOnStanding =
    (standing named other : ℕ → Bool) (all : Bool) (words : List ℕ) →
    ((k : ℕ) → standing k ≡ true → named k ≡ other k) →
    question_refusal standing words ≡ None →
    holds named all [] words ≡ holds other all [] words

-- it lies within all, where the values of the kinds that stand do
abbrev pub LiesWithinAll : Type 0
LiesWithinAll =
    (standing named : ℕ → Bool) (all : Bool) (words : List ℕ) →
    ((k : ℕ) → standing k ≡ true → named k ≡ true → all ≡ true) →
    question_refusal standing words ≡ None →
    holds named all [] words ≡ true → all ≡ true
