-- The lines that stand between kinds, and the kinds that stand. Kinds are numbers.
use Rattle.std.specs.Prelude.{ℕ, ◌<◌, Bool, false, ◌&&◌, ◌||◌, List, [], ◌∷◌, map, length, ◌==◌, ◌≢◌, slice_index}
use Rattle.descent.specs.declared.kind.Kind.{Kind}
use Rattle.descent.specs.declared.line.Line.{Line}

-- the line from this child to this parent stands
abbrev pub has_line : ℕ → ℕ → List Line → Bool
has_line child parent [] = false
has_line child parent (l ∷ ls) = (l.child == child && l.parent == parent) || has_line child parent ls

-- some line has the kind, as child or as parent
abbrev pub mentioned : ℕ → List Line → Bool
mentioned kind [] = false
mentioned kind (l ∷ ls) = (l.child == kind || l.parent == kind) || mentioned kind ls

-- the kind is one of the list
abbrev pub stands : ℕ → List ℕ → Bool
stands kind [] = false
stands kind (k ∷ ks) = k == kind || stands kind ks

-- the serials of kinds, and their places
abbrev pub serials_of : List Kind → List ℕ
serials_of = map (λ k. k.serial)

abbrev pub places_of : List Kind → List ℕ
places_of = map (λ k. k.place)

-- no number is in the list twice
abbrev pub Distinct : List ℕ → Type 0
Distinct xs = (i j : ℕ) → i < j → j < length xs → slice_index xs i ≢ slice_index xs j
