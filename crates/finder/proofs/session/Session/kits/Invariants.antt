use Rattle.std.proofs.Common.{◌+◌, ◌≤◌, length}
use Rattle.finder.proofs.session.Session.kits.Given as goal

-- each kit has a word of its own
abbrev pub invariant-loop-kit : goal.invariant-loop-kit
invariant-loop-kit g l = (l.count + length l.kit-iterator.left.now ≤ length l.initial.kit-iterator.left.now) × (l.changed ≤ l.count)
