use Rattle.std.proofs.Common.{length}
use Rattle.closing.specs.Tables.{sets_of}
use Rattle.closing.proofs.Cells.{Stepping}
use Rattle.closing.proofs.rows.step.Given as goal

abbrev pub invariant-loop-slot : goal.invariant-loop-slot
invariant-loop-slot g l =
    let s = g.C.Truth.sort in Stepping (length l.initial.rows) l.k (sets_of s l.initial.rows) (sets_of s l.rows) l.slot-index
