use Rattle.std.proofs.Common.{◌≡◌}
use Rattle.stack.specs.Held.{held, SameSlots}
use Rattle.closing.specs.Direct.{place_of}
use Rattle.closing.proofs.Trails.{Walk, zeros}
use Rattle.closing.proofs.ring.ClosedTable.climb.Given as goal

abbrev pub invariant-loop-marks : goal.invariant-loop-marks
invariant-loop-marks g l = record {
  walk : Walk l.self.standing.now l.top l.marks.bytes.now (held l.stack) l.kind;
  at : l.place ≡ place_of l.self.standing.now.kinds.now l.kind;
  slots : SameSlots l.initial.stack l.stack;
  lender : l.marks.bytes.ghost_name ≡ l.initial.marks.bytes.ghost_name;
}

abbrev pub decreases-loop-marks : goal.decreases-loop-marks
decreases-loop-marks g l = zeros l.marks.bytes.now
