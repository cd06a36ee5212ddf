-- What the names in a question mean, as places.
use Rattle.std.specs.Prelude.{ℕ, Bool, cond, ◌&&◌, List, [], ◌∷◌, ◌==◌, nat_lt}
use Rattle.descent.specs.Lines.{stands}
use Rattle.closing.specs.Tables.{cell}
use Rattle.catalogue.specs.View.{View}

-- the place of the kind with this serial, in kinds and places that go together; 0 where it does not stand
abbrev pub seat : List ℕ → List ℕ → ℕ → ℕ
seat [] places serial = 0
seat (k ∷ kinds) [] serial = 0
seat (k ∷ kinds) (p ∷ places) serial = cond (k == serial) p (seat kinds places serial)

-- the places of a name's value: those of the row at the named kind's place, where it stands
abbrev pub row_places : View → List (ℕ → Bool) → ℕ → ℕ → Bool
row_places v rows serial p = stands serial v.book.kinds && cell rows (seat v.book.kinds v.places serial) p

-- whether a place below w is among them
abbrev pub fits_name : View → ℕ → List (ℕ → Bool) → ℕ → ℕ → Bool
fits_name v w rows place serial = nat_lt place w && row_places v rows serial place
