-- What is always true of standing kinds, their places and their lines.
use Rattle.std.specs.Prelude.{◌≡◌, ℕ, ◌^◌, ◌≤◌, Bool, true, not, ◌&&◌, List, [], ◌∷◌, map, length, ◌==◌, nat_lt}
use Rattle.descent.specs.declared.line.Line.{Line}
use Rattle.descent.specs.Lines.{stands}
use Rattle.descent.specs.Order.{rising_from, line_key}

-- each number is below w
abbrev pub below : ℕ → List ℕ → Bool
below w [] = true
below w (x ∷ xs) = nat_lt x w && below w xs

-- no number is in the list twice
abbrev pub distinct : List ℕ → Bool
distinct [] = true
distinct (x ∷ xs) = not (stands x xs) && distinct xs

-- the line is between two different kinds that stand
abbrev pub joins : List ℕ → Line → Bool
joins kinds l = stands l.child kinds && (stands l.parent kinds && not (l.child == l.parent))

-- each line is such a line
abbrev pub joining : List ℕ → List Line → Bool
joining kinds [] = true
joining kinds (l ∷ ls) = joins kinds l && joining kinds ls

-- kinds and lines that a catalogue of w places can hold
pub record CanHold (w : ℕ) (kinds : List ℕ) (lines : List Line) : Type 0 where
  pub wide : w ≤ 512
  pub places : length kinds ≤ w
  pub rising : rising_from 0 kinds ≡ true
  pub serials : below (2 ^ 28) kinds ≡ true
  pub ordered : rising_from 0 (map line_key lines) ≡ true
  pub joins : joining kinds lines ≡ true
  pub few : length lines ≤ 2048
