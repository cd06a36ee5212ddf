-- Descent worked out over places: a table of truth values, closed step by step.
use Rattle.std.specs.Prelude.{◌≡◌, ℕ, zero, suc, ◌<◌, Bool, true, false, ◌&&◌, ◌||◌, ◌⊎◌, ◌↔◌, List, length, slice_index, slice_index_or}
use Rattle.descent.specs.declared.line.Line.{Line}
use Rattle.descent.specs.Lines.{has_line, stands, Distinct}
use Rattle.descent.specs.Descent.{Descends}

-- the table after the steps 0 to b - 1; a step b joins what meets at place b
abbrev pub closure : ℕ → (ℕ → ℕ → Bool) → ℕ → ℕ → Bool
closure zero r i j = r i j
closure (suc b) r i j = closure b r i j || (closure b r i b && closure b r b j)

-- every standing kind has a place of its own below w, and lines are between standing kinds only
pub record Placed (w : ℕ) (kinds places : List ℕ) (ls : List Line) : Type 0 where
  pub paired : length places ≡ length kinds
  pub below : (a : ℕ) → a < length kinds → slice_index places a < w
  pub apart : Distinct places
  pub different : Distinct kinds
  pub between : (c p : ℕ) → has_line c p ls ≡ true → (stands c kinds ≡ true) × (stands p kinds ≡ true)

-- the kind at place j is the kind at place i, or has a line to it
pub record JustBelow (kinds places : List ℕ) (ls : List Line) (i j : ℕ) : Type 0 where
  pub upper : ℕ
  pub lower : ℕ
  pub upper_stands : upper < length kinds
  pub lower_stands : lower < length kinds
  pub upper_place : slice_index_or places upper 0 ≡ i
  pub lower_place : slice_index_or places lower 0 ≡ j
  pub near : (upper ≡ lower) ⊎ (has_line (slice_index kinds lower) (slice_index kinds upper) ls ≡ true)

-- row i of the table has the kind at place i and the children of that kind, each at its place
abbrev pub Direct : ℕ → List ℕ → List ℕ → List Line → (ℕ → ℕ → Bool) → Type 0
Direct w kinds places ls r = (i j : ℕ) → i < w → j < w → (r i j ≡ true) ↔ JustBelow kinds places ls i j

-- closed over every place, row i has exactly what descends from the kind at place i
abbrev pub ClosureRight : Type 0
ClosureRight =
    (w : ℕ) (kinds places : List ℕ) (ls : List Line) (r : ℕ → ℕ → Bool) →
    Placed w kinds places ls →
    Direct w kinds places ls r →
    (a b : ℕ) →
    a < length kinds →
    b < length kinds →
    (closure w r (slice_index places a) (slice_index places b) ≡ true) ↔ Descends ls (slice_index kinds b) (slice_index kinds a)

-- a place of no kind has an empty row, and is in no row
abbrev pub ClosureOnlyPlaces : Type 0
ClosureOnlyPlaces =
    (w : ℕ) (kinds places : List ℕ) (ls : List Line) (r : ℕ → ℕ → Bool) →
    Placed w kinds places ls →
    Direct w kinds places ls r →
    (i j : ℕ) →
    i < w →
    j < w →
    (stands i places ≡ false) ⊎ (stands j places ≡ false) →
    closure w r i j ≡ false
