-- Lists of words as fields of a line.
use Rattle.std.specs.Prelude.{◌≡◌, ℕ, false, List, [], ◌∷◌, ◌++◌, map, Some, None, Option}
use Rattle.std.specs.List.{flat_map}
use Rattle.terminal.specs.declared.lists.FieldFault.{FieldFault}
use Rattle.terminal.specs.declared.lists.FieldFault.TheVariants.{NotWord, Memory}
use Rattle.terminal.specs.Numbers.{word_in, hex_digits}
use Rattle.terminal.specs.Fields.{any_space, whole, fields}

-- a first word before the others, where all are words
abbrev pub before : Option ℕ → Option (List ℕ) → Option (List ℕ)
before (Some word) (Some words) = Some (word ∷ words)
before (Some word) None = None
before None words = None

-- the words in the fields, where each field is a word
abbrev pub words_in : List (List ℕ) → Option (List ℕ)
words_in [] = Some []
words_in (field ∷ more) = before (word_in field) (words_in more)

-- fields are refused where one of them is no word, and only there
abbrev pub Unread : List (List ℕ) → FieldFault → Type 0
Unread left NotWord = words_in left ≡ None
Unread left Memory = words_in left ≡ None → ⊥

-- each word behind a space
abbrev pub spaced : List ℕ → List ℕ
spaced words = flat_map (λ word. 32 ∷ hex_digits word) words

-- behind any name with no space in it the words are fields of their own, and are read as the same words
pub record ReadsBack (words : List ℕ) : Type 0 where
  pub apart : (name : List ℕ) → any_space name ≡ false → fields (name ++ spaced words) ≡ whole name ++ map hex_digits words
  pub same : words_in (map hex_digits words) ≡ Some words
