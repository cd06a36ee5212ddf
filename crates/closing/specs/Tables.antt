-- A table as the sets of places that its rows are read as, and the table that a closing fills.
use Rattle.std.specs.Prelude.{◌≡◌, ℕ, ◌<◌, ◌≤◌, Bool, false, ◌⊎◌, List, map, length, slice_index, slice_index_or}
use Rattle.codes.specs.Sorts.{Sort}
use Rattle.descent.specs.declared.line.Line.{Line}
use Rattle.descent.specs.Lines.{stands}
use Rattle.descent.specs.Descent.{descends}

-- what the rows of a table are read as
abbrev pub sets_of : {S R : Type 0} → Sort S R → List R → List (ℕ → Bool)
sets_of sort table = map sort.reads table

-- whether row i has place j
abbrev pub cell : List (ℕ → Bool) → ℕ → ℕ → Bool
cell rows i j = slice_index_or rows i (λ _. false) j

-- the rows have exactly these cells at places below w
abbrev pub Cells : ℕ → List (ℕ → Bool) → (ℕ → ℕ → Bool) → Type 0
Cells w rows truth = (i j : ℕ) → i < w → j < w → cell rows i j ≡ truth i j

-- a table of one row for each of w places, by a sort that has these places
abbrev pub FitsWidth : ℕ → ℕ → ℕ → Type 0
FitsWidth w rows places = (rows ≡ w) × (w ≤ places)

-- every row below w is empty
abbrev pub Empty : ℕ → List (ℕ → Bool) → Type 0
Empty w rows = Cells w rows (λ i j. false)

-- the row at a kind's place has exactly the places of the kinds that descend from it; a place of no kind has an empty row, and is in no row
pub record Filled (w : ℕ) (kinds places : List ℕ) (ls : List Line) (rows : List (ℕ → Bool)) : Type 0 where
  pub descent : (a b : ℕ) → a < length kinds → b < length kinds →
      cell rows (slice_index places a) (slice_index places b) ≡ descends ls (slice_index kinds b) (slice_index kinds a)
  pub only : (i j : ℕ) → i < w → j < w → (stands i places ≡ false) ⊎ (stands j places ≡ false) → cell rows i j ≡ false
