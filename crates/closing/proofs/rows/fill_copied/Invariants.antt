use Rattle.std.proofs.Common.{◌≡◌, take, replicate}
use Rattle.closing.proofs.rows.fill_copied.Given as goal

abbrev pub invariant-loop-slot : goal.invariant-loop-slot
invariant-loop-slot g l = take l.slot-index l.rows ≡ replicate l.slot-index l.row
