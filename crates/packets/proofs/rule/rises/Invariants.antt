use Rattle.std.proofs.Common.{◌≡◌, drop}
use Rattle.packets.specs.Bounds.{rises}
use Rattle.packets.proofs.rule.rises.Given as goal

abbrev pub invariant-loop-bound : goal.invariant-loop-bound
invariant-loop-bound l = rises 512 l.low (drop l.bound-index l.bounds) ≡ rises 512 0 l.bounds
