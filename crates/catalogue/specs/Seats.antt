-- How a kind is given a place, and gives it back.
use Rattle.std.specs.Prelude.{◌≡◌, ℕ, List, [], ◌∷◌, ◌++◌, slice_index_or}
use Rattle.std.specs.List.{insert, remove}
use Rattle.descent.specs.declared.kind.Kind.{Kind}

-- the kind goes in at an index, with the last of the free places
abbrev pub Seated : ℕ → ℕ → List Kind → List ℕ → List Kind → List ℕ → Type 0
Seated serial at kinds free kinds' free' =
    (place : ℕ) × (free ≡ free' ++ place ∷ []) × (kinds' ≡ insert kinds at (record { serial = serial; place = place }))

-- the kind at an index goes out, and its place is free
abbrev pub Freed : ℕ → List Kind → List ℕ → List Kind → List ℕ → Type 0
Freed at kinds free kinds' free' =
    (kind : Kind) × (kind ≡ slice_index_or kinds at kind) × (kinds' ≡ remove kinds at) × (free' ≡ free ++ kind.place ∷ [])
