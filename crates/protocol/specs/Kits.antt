-- Kept answers in a file, one behind the other.
use Rattle.std.specs.Prelude.{ℕ, ◌+◌, min, Bool, cond, not, List, [], ◌∷◌}
use Rattle.std.specs.List.{prefix_len}
use Rattle.words.specs.declared.word.WordKind.TheVariants.{AnswerHead}
use Rattle.words.specs.Words.{is_kind, low_bits}

-- a word that begins no kit
abbrev pub inside : ℕ → Bool
inside word = not (is_kind AnswerHead word)

-- how many words come before the next head
abbrev pub before_head : List ℕ → ℕ
before_head words = prefix_len inside words

-- how many words the first kit has: it ends with the names that its head counts, or before the next head
abbrev pub kit_length : List ℕ → ℕ
kit_length [] = 0
kit_length (head ∷ rest) = 1 + cond (is_kind AnswerHead head) (min (before_head rest) (low_bits head)) (before_head rest)
