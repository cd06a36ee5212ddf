-- What holds between a catalogue, its table and its ledger, and what a call does.
use Rattle.std.specs.Prelude.{◌≡◌}
use Rattle.catalogue.specs.Ledger.{Ledger, Call, after}
use Rattle.catalogue.specs.View.{View}
use Rattle.catalogue.specs.Table.{Table, Belongs}
use Rattle.histories.specs.declared.memory.Lists.{Lists}
use Rattle.histories.specs.declared.memory.Memory.{Memory}
use Rattle.histories.specs.Calls.{rooms}
use Rattle.histories.specs.Sayings.{Saying, saying}

-- the table belongs to the catalogue, and the ledger tells what stands there
pub record Holds (v : View) (t : Table) (l : Ledger) : Type 0 where
  pub belongs : Belongs v t
  pub told : v.book ≡ l

-- where l stood a call said this, and left a catalogue and a table
pub record Answered (l : Ledger) (call : Call) (s : Saying) (v : View) (t : Table) : Type 0 where
  pub says : s ≡ saying l call
  pub left : Holds v t (after l call)

-- the same memory is lent in each list, and so no more or less of it
pub record SameMemory {R : Type 0} (old new : Lists R) : Type 0 where
  pub table : new.table.ghost_name ≡ old.table.ghost_name
  pub words : new.words.ghost_name ≡ old.words.ghost_name
  pub marks : new.marks.ghost_name ≡ old.marks.ghost_name
  pub walk : new.walk.ghost_name ≡ old.walk.ghost_name
  pub ring : new.ring.ghost_name ≡ old.ring.ghost_name
  pub working : new.working.ghost_name ≡ old.working.ghost_name
  pub truths : new.truths.ghost_name ≡ old.truths.ghost_name
  pub long : rooms new ≡ rooms old

-- the lists that are lent hold what a finder's memory holds
pub record SameItems {R : Type 0} (m : Memory R) (l : Lists R) : Type 0 where
  pub table : l.table.now ≡ m.table.items
  pub words : l.words.now ≡ m.words.items
  pub marks : l.marks.now ≡ m.marks.items
  pub walk : l.walk.now ≡ m.walk.items
  pub ring : l.ring.now ≡ m.ring.items
  pub working : l.working.now ≡ m.working.items
  pub truths : l.truths.now ≡ m.truths.items
