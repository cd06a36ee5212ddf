-- What a row of words means.
use Rattle.std.specs.Prelude.{ℕ, ◌/◌, ◌%◌, ◌^◌, Bool, true, List, ◌==◌, slice_index}
use Rattle.codes.specs.Sorts.{Sort}
use Rattle.bits.specs.declared.value.Bits.{Bits}

-- whether the binary digit of n with the weight 2 ^ p is 1
abbrev pub bit_at : ℕ → ℕ → Bool
bit_at n p = n / 2 ^ p % 2 == 1

-- the places of words of 64 bits
abbrev pub words_have : List ℕ → ℕ → Bool
words_have words p = bit_at (slice_index words (p / 64)) (p % 64)

-- every row of eight words is the row of some bits
abbrev pub bits_sort : Sort Bits (List ℕ)
bits_sort = record { width = 512; means = λ v. words_have v.words; written = λ v. v.words; keeps = λ _. true; reads = words_have }
