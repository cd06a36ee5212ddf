use Rattle.std.proofs.Common.{◌≡◌, ◌≤◌, ◌++◌, drop, decimal}
use Rattle.terminal.proofs.decimal.fill_digits.Given as goal

-- the digits of what is left, and then those that stand at the end
abbrev pub invariant-loop-left : goal.invariant-loop-left
invariant-loop-left l = (1 ≤ l.at) × (l.at ≤ 20) × (l.left ≤ l.number) × (decimal l.left ++ drop l.at l.digits ≡ decimal l.number)

abbrev pub decreases-loop-left : goal.decreases-loop-left
decreases-loop-left l = l.left
