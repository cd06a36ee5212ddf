-- A code table as a specification sees it, whatever its sort, and when it belongs to a catalogue.
use Rattle.std.specs.Prelude.{◌≡◌, ℕ, ◌≤◌, Bool, true, false, List, length}
use Rattle.codes.specs.Sorts.{Sort}
use Rattle.closing.specs.Tables.{sets_of, Filled}
use Rattle.descent.specs.Rings.{ringed}
use Rattle.catalogue.specs.View.{View}

pub record Table : Type 0 where
  -- the width of its sort
  pub across : ℕ
  -- the set of places that each row is read as
  pub rows : List (ℕ → Bool)

abbrev pub table_of : {S R : Type 0} → Sort S R → List R → Table
table_of sort rows = record { across = sort.width; rows = sets_of sort rows }

-- the table has a row for each place, filled with the descents of what stands, and no ring stands
pub record Closed (v : View) (t : Table) : Type 0 where
  pub room : v.book.wide ≤ length t.rows
  pub filled : Filled v.book.wide v.book.kinds v.places v.book.lines t.rows
  pub ringless : ringed v.book.lines ≡ false

-- the table is of the catalogue's width, and is filled while the catalogue is closed
pub record Belongs (v : View) (t : Table) : Type 0 where
  pub wide : v.book.wide ≡ t.across
  pub closed : v.book.closed ≡ true → Closed v t
