use Rattle.std.proofs.Common.{◌*◌, drop}
use Rattle.packets.specs.Packets.{packets_have, bounds_of}
use Rattle.packets.proofs.Walk.{Met}
use Rattle.packets.proofs.code.PacketsTruth.meet.Given as goal

abbrev pub invariant-loop-first : goal.invariant-loop-first
invariant-loop-first l = Met (packets_have l.fn.self) (bounds_of l.other) (drop (l.first-index * 2) (bounds_of l.other)) (packets_have l.self) l.edge
