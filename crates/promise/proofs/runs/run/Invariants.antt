use Rattle.std.proofs.Common.{◌≡◌, map, take, vec_items}
use Rattle.catalogue.specs.Ledger.{blank}
use Rattle.catalogue.specs.Table.{table_of}
use Rattle.catalogue.specs.View.{view}
use Rattle.histories.specs.Calls.{rooms, rooms_of, heard, ledger_after}
use Rattle.histories.specs.Holds.{Holds}
use Rattle.promise.specs.Runs.{shown, Followed}
use Rattle.promise.proofs.runs.run.Given as goal

-- the calls made so far said what they had to, and left what the ledger tells and lists as long as they were
abbrev pub invariant-loop-call : goal.invariant-loop-call
invariant-loop-call g l =
    let new = blank g.C.Truth.sort.width in
    let past = map (heard (rooms_of l.fn.memory)) (take l.call-index l.calls) in
    Followed new past (map shown (vec_items l.said))
    × Holds (view l.catalogue) (table_of g.C.Truth.sort l.lists.table.now) (ledger_after new past)
    × (rooms l.lists ≡ rooms_of l.fn.memory)
