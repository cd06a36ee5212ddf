-- The lists that a closing is lent, at the call and at the return.
use Rattle.std.specs.Prelude.{ℕ, List}
use Rattle.std.specs.Borrow.{MutBor}
use Rattle.closing.specs.declared.lists.ClosingLists.{ClosingLists}
use Rattle.closing.specs.Closing.{Lent, lent}

-- what the lists hold at the call
abbrev pub lent_at : {R : Type 0} → ClosingLists R → Lent R
lent_at l = lent l.table.now l.marks.now l.walk.now l.ring.now

-- what a closing leaves in them
abbrev pub left_at : {R : Type 0} → MutBor (List R) × (MutBor (List ℕ) × (MutBor (List ℕ) × (MutBor (List ℕ) × Unit {0}))) → Lent R
left_at l = lent l.0.now l.1.0.now l.1.1.0.now l.1.1.1.0.now
