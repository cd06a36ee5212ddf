-- What a table has before it is closed: each kind's own place, and the place of each child.
use Rattle.std.specs.Prelude.{ℕ, Bool, false, ◌&&◌, ◌||◌, List, [], ◌∷◌, ◌==◌, find}
use Rattle.std.specs.Option.{option_map_or}
use Rattle.descent.specs.declared.kind.Kind.{Kind}
use Rattle.descent.specs.declared.line.Line.{Line}
use Rattle.descent.specs.Lines.{places_of, stands}

-- the value of the first kind that has this key; 0 where none has
abbrev pub found : (Kind → ℕ) → (Kind → ℕ) → List Kind → ℕ → ℕ
found key value kinds x = option_map_or value (find (λ k. key k == x) kinds) 0

-- the place of the kind with this serial
abbrev pub place_of : List Kind → ℕ → ℕ
place_of kinds serial = found (λ k. k.serial) (λ k. k.place) kinds serial

-- the serial of the kind at this place
abbrev pub serial_at : List Kind → ℕ → ℕ
serial_at kinds place = found (λ k. k.place) (λ k. k.serial) kinds place

-- i is a kind's place, and j is that place
abbrev pub own : List ℕ → ℕ → ℕ → Bool
own places i j = i == j && stands i places

-- some line leads from the kind at place j to the kind at place i
abbrev pub linked : List Kind → List Line → ℕ → ℕ → Bool
linked kinds [] i j = false
linked kinds (l ∷ ls) i j = (i == place_of kinds l.parent && j == place_of kinds l.child) || linked kinds ls i j

abbrev pub direct : List Kind → List Line → ℕ → ℕ → Bool
direct kinds ls i j = own (places_of kinds) i j || linked kinds ls i j
