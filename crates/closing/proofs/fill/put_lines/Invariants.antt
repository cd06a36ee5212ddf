use Rattle.std.proofs.Common.{◌||◌, take}
use Rattle.closing.specs.Tables.{sets_of, cell, Cells}
use Rattle.closing.specs.Direct.{linked}
use Rattle.closing.proofs.fill.put_lines.Given as goal

abbrev pub invariant-loop-line : goal.invariant-loop-line
invariant-loop-line g l =
    let s = g.C.Truth.sort in
    Cells s.width (sets_of s l.rows)
    (λ i j. cell (sets_of s l.initial.rows) i j || linked l.standing.kinds.now (take l.line-index l.standing.lines.now) i j)
