use Rattle.std.proofs.Common.{◌≡◌, ℕ, ◌+◌, ◌<◌, ◌≤◌, false}
use Rattle.descent.specs.Descent.{descends}
use Rattle.closing.proofs.Direct.{line_at}
use Rattle.closing.proofs.ring.ClosedTable.parent_towards.Given as goal

abbrev pub invariant-loop-line : goal.invariant-loop-line
invariant-loop-line g l =
    let ls = l.self.standing.now.lines.now in
    (m : ℕ) → l.first ≤ m → m < l.first + l.line-index → descends ls (line_at ls m).parent l.top ≡ false
