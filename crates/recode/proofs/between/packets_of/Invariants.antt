use Rattle.std.proofs.Common.{◌-◌}
use Rattle.bits.specs.Bits.{words_have}
use Rattle.packets.specs.Packets.{packets_have}
use Rattle.recode.proofs.Scan.{Scanned}
use Rattle.recode.proofs.between.packets_of.Given as goal

abbrev pub invariant-loop-start : goal.invariant-loop-start
invariant-loop-start l = Scanned (words_have l.bits.words) (packets_have l.packets) l.from

abbrev pub decreases-loop-start : goal.decreases-loop-start
decreases-loop-start l = 512 - l.from
