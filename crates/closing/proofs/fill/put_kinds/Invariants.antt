use Rattle.std.proofs.Common.{◌||◌, take}
use Rattle.closing.specs.Tables.{sets_of, cell, Cells}
use Rattle.descent.specs.Lines.{places_of}
use Rattle.closing.specs.Direct.{own}
use Rattle.closing.proofs.fill.put_kinds.Given as goal

abbrev pub invariant-loop-kind : goal.invariant-loop-kind
invariant-loop-kind g l =
    let s = g.C.Truth.sort in
    Cells s.width (sets_of s l.rows) (λ i j. cell (sets_of s l.initial.rows) i j || own (take l.kind-index (places_of l.kinds)) i j)
