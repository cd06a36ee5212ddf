-- Words in files: four bytes each, the most significant first.
use Rattle.std.specs.Prelude.{◌≡◌, ℕ, ◌/◌, ◌%◌, ◌^◌, List, [], ◌∷◌, length}
use Rattle.std.specs.List.{flat_map}
use Rattle.words.specs.declared.files.DecodeFault.{DecodeFault}
use Rattle.words.specs.declared.files.DecodeFault.TheVariants.{PartialWord, Memory}

-- a word of 32 bits as its four bytes
abbrev pub word_bytes : ℕ → List ℕ
word_bytes w = w / 2 ^ 24 ∷ w / 2 ^ 16 % 256 ∷ w / 2 ^ 8 % 256 ∷ w % 256 ∷ []

abbrev pub bytes_of : List ℕ → List ℕ
bytes_of words = flat_map word_bytes words

-- the words turn back into the bytes, and no others do
pub record Decodes (bytes words : List ℕ) : Type 0 where
  pub back : bytes_of words ≡ bytes
  pub only : (others : List ℕ) → bytes_of others ≡ bytes → words ≡ others

-- bytes that end inside a word are refused, and only those
abbrev pub Undecoded : List ℕ → DecodeFault → Type 0
Undecoded bytes PartialWord = length bytes % 4 ≡ 0 → ⊥
Undecoded bytes Memory = length bytes % 4 ≡ 0
