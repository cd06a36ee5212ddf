use Rattle.std.proofs.Common.{map, take}
use Rattle.catalogue.specs.Ledger.{Ledger}
use Rattle.catalogue.specs.Table.{table_of}
use Rattle.catalogue.specs.View.{view}
use Rattle.histories.specs.Calls.{rooms, heard, ledger_after}
use Rattle.histories.specs.Holds.{Holds, SameMemory}
use Rattle.histories.proofs.runs.follow.Given as goal

-- what stands is what the calls made so far left
abbrev pub invariant-loop-call : goal.invariant-loop-call
invariant-loop-call g l =
    SameMemory l.initial.lists l.lists
    × ((m : Ledger) → Holds (view l.initial.catalogue) (table_of g.C.Truth.sort l.initial.lists.table.now) m
    → Holds (view l.catalogue) (table_of g.C.Truth.sort l.lists.table.now)
    (ledger_after m (map (heard (rooms l.initial.lists)) (take l.call-index l.calls))))
