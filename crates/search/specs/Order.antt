-- Where a number stands in a rising row, or would go.
use Rattle.std.specs.Prelude.{◌≡◌, ℕ, ◌<◌, ◌≤◌, List, length, Result, Ok, Err, slice_index}

-- the numbers before the cut are below x, and those from it on are not
pub record Cut (xs : List ℕ) (x cut : ℕ) : Type 0 where
  pub within : cut ≤ length xs
  pub before : (a : ℕ) → a < cut → slice_index xs a < x
  pub after : (a : ℕ) → cut ≤ a → a < length xs → x ≤ slice_index xs a

-- an index of a row of n elements; a gap may be at its end
abbrev pub Within : ℕ → Result ℕ ℕ → Type 0
Within n (Ok i) = i < n
Within n (Err i) = i ≤ n

-- where a number stands in a row, or the gap between the lesser and the greater
abbrev pub Located : List ℕ → ℕ → Result ℕ ℕ → Type 0
Located xs x (Ok i) = (i < length xs) × (slice_index xs i ≡ x)
Located xs x (Err i) = (i ≤ length xs) × ((k : ℕ) → k < i → slice_index xs k < x) × ((k : ℕ) → i ≤ k → k < length xs → x < slice_index xs k)
