use Rattle.std.proofs.Common.{length}
use Rattle.descent.specs.Closure.{closure}
use Rattle.closing.specs.Tables.{sets_of, cell, Cells}
use Rattle.closing.proofs.fill.join_all.Given as goal

abbrev pub invariant-loop-k : goal.invariant-loop-k
invariant-loop-k g l =
    let s = g.C.Truth.sort in
    Cells (length l.initial.rows) (sets_of s l.rows) (closure l.k (cell (sets_of s l.initial.rows)))
