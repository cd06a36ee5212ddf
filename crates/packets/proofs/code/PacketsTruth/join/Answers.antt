use Rattle.packets.specs.Packets.{packets_have}
use Rattle.packets.proofs.Pairs.{in_pairs}
use Rattle.packets.proofs.Walk.{join_more, join_all}
use Rattle.packets.proofs.code.PacketsTruth.join.Goals as goal

pub loop-first-preserved : goal.loop-first-preserved
loop-first-preserved c =
    join_more (in_pairs c.as_slice.ensures c.as_chunks.ensures.front_len c.as_chunks.ensures.front) c.loop-first.first-index
    (packets_have c.args.self.now) (packets_have c.loop-first.self) (packets_have c.set_run.new.self)
    c.loop-first-test.true c.from.ensures c.from-in-loop-first.ensures c.loop-first.invariant c.set_run.ensures

pub returns : goal.returns
returns c =
    join_all (in_pairs c.as_slice.ensures c.as_chunks.ensures.front_len c.as_chunks.ensures.front) c.loop-first.first-index
    (packets_have c.args.self.now) (packets_have c.loop-first.self) c.loop-first-test.false c.loop-first.invariant
