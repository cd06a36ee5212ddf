-- Rings of lines, and a test for them.
use Rattle.std.specs.Prelude.{◌≡◌, ℕ, ◌+◌, ◌-◌, ◌<◌, ◌≤◌, Bool, true, false, ◌||◌, ◌↔◌, List, [], ◌∷◌, length, slice_index}
use Rattle.descent.specs.declared.line.Line.{Line}
use Rattle.descent.specs.Lines.{has_line, Distinct}
use Rattle.descent.specs.Descent.{LeadsUp, descends}

-- a ring: two kinds or more, all different, each with a line to the next, and the last with a line to the first
pub record Ring (ls : List Line) (ring : List ℕ) : Type 0 where
  pub two : 2 ≤ length ring
  pub different : Distinct ring
  pub next : (i : ℕ) → i + 1 < length ring → has_line (slice_index ring i) (slice_index ring (i + 1)) ls ≡ true
  pub round : has_line (slice_index ring (length ring - 1)) (slice_index ring 0) ls ≡ true

-- some line of the second list has a parent that descends, by the lines of the first, from its child
abbrev pub some_round : List Line → List Line → Bool
some_round ls [] = false
some_round ls (l ∷ rest) = descends ls l.parent l.child || some_round ls rest

-- the test for rings: some line's parent descends from its child
abbrev pub ringed : List Line → Bool
ringed ls = some_round ls ls

-- the test is passed exactly if some kind leads up to itself
abbrev pub RingedDecided : Type 0
RingedDecided = (ls : List Line) → (ringed ls ≡ true) ↔ ((k : ℕ) × LeadsUp ls k k)

-- no line leads from a kind to that kind
abbrev pub NoOwnParent : List Line → Type 0
NoOwnParent ls = (k : ℕ) → has_line k k ls ≡ false

-- where no kind is its own parent, lines that pass the test have a ring among them
abbrev pub RingFound : Type 0
RingFound = (ls : List Line) → NoOwnParent ls → ringed ls ≡ true → (ring : List ℕ) × Ring ls ring

-- and lines with a ring among them pass the test
abbrev pub RingShows : Type 0
RingShows = (ls : List Line) (ring : List ℕ) → Ring ls ring → ringed ls ≡ true
