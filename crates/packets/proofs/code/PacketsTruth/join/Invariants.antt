use Rattle.std.proofs.Common.{◌*◌, drop}
use Rattle.packets.specs.Packets.{packets_have, bounds_of}
use Rattle.packets.proofs.Walk.{Joined}
use Rattle.packets.proofs.code.PacketsTruth.join.Given as goal

abbrev pub invariant-loop-first : goal.invariant-loop-first
invariant-loop-first l = Joined (packets_have l.fn.self) (bounds_of l.other) (drop (l.first-index * 2) (bounds_of l.other)) (packets_have l.self)
