-- Numbers as fields of a line: a decimal number of any length, and a word as eight hexadecimal digits.
use Rattle.std.specs.Prelude.{◌≡◌, ℕ, ◌+◌, ◌/◌, ◌%◌, ◌^◌, ◌<◌, Bool, true, cond, ◌&&◌, List, [], ◌∷◌, ◌++◌, length, is_ok, Some, None, Option, Result, ◌==◌, nat_lt, slice_index}
use Rattle.std.specs.Str.Parse.{digits_value}
use Rattle.std.specs.Char.{digit_value}

-- digits of this base, of either case, and nothing else
abbrev pub all_digits : ℕ → List ℕ → Bool
all_digits base [] = true
all_digits base (byte ∷ bytes) = nat_lt (digit_value byte) base && all_digits base bytes

-- the number that digits of this base write, where it fits 32 bits
abbrev pub numeral_in : ℕ → List ℕ → Option ℕ
numeral_in base field = cond (all_digits base field && nat_lt (digits_value base field) (2 ^ 32)) (Some (digits_value base field)) None

-- one decimal digit or more
abbrev pub decimal_in : List ℕ → Option ℕ
decimal_in field = cond (length field == 0) None (numeral_in 10 field)

-- eight hexadecimal digits
abbrev pub word_in : List ℕ → Option ℕ
word_in field = cond (length field == 8 && all_digits 16 field) (Some (digits_value 16 field)) None

-- the digits write n, with no needless zero before them, and are read as n where it fits 32 bits
pub record WritesDecimal (n : ℕ) (digits : List ℕ) : Type 0 where
  pub all : all_digits 10 digits ≡ true
  pub worth : digits_value 10 digits ≡ n
  pub first : 0 < n → 48 < slice_index digits 0
  pub one : n ≡ 0 → digits ≡ 48 ∷ []
  pub back : n < 2 ^ 32 → decimal_in digits ≡ Some n

-- the digit of a number below sixteen, in upper case
abbrev pub hex_digit : ℕ → ℕ
hex_digit d = cond (nat_lt d 10) (48 + d) (55 + d)

abbrev pub hex_digits : ℕ → List ℕ
hex_digits w =
    hex_digit (w / 2 ^ 28)
    ∷ hex_digit (w / 2 ^ 24 % 16)
    ∷ hex_digit (w / 2 ^ 20 % 16)
    ∷ hex_digit (w / 2 ^ 16 % 16)
    ∷ hex_digit (w / 2 ^ 12 % 16)
    ∷ hex_digit (w / 2 ^ 8 % 16)
    ∷ hex_digit (w / 2 ^ 4 % 16)
    ∷ hex_digit (w % 16)
    ∷ []

-- what was written before, with the bytes behind it; or unchanged, where there was no memory
abbrev pub Appends : {T E : Type 0} → Result T E → List ℕ → List ℕ → List ℕ → Type 0
Appends r before bytes after = after ≡ cond (is_ok r) (before ++ bytes) before
