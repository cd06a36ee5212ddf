use Rattle.std.proofs.Common.{refl, arith}
use Rattle.std.proofs.lemmas.Bool.Decides.{nat_tests}
use Rattle.packets.specs.Found.{rising}
use Rattle.packets.specs.Packets.{packets_have}
use Rattle.packets.proofs.Pairs.{in_pairs}
use Rattle.packets.proofs.Walk.{meet_more, meet_all}
use Rattle.packets.proofs.code.PacketsTruth.meet.Goals as goal

pub loop-first-init : goal.loop-first-init
loop-first-init c = record { rises = rising c.args.other.now; left = λ p _. refl; so_far = λ p _. grind (arith, nat_tests) }

pub loop-first-preserved : goal.loop-first-preserved
loop-first-preserved c =
    meet_more (in_pairs c.as_slice.ensures c.as_chunks.ensures.front_len c.as_chunks.ensures.front) c.loop-first.first-index
    (packets_have c.args.self.now) (packets_have c.loop-first.self) (packets_have c.unset_run.new.self) c.loop-first.edge
    c.loop-first-test.true c.from.ensures c.from-edge.ensures c.loop-first.invariant c.unset_run.ensures

pub returns : goal.returns
returns c =
    meet_all (in_pairs c.as_slice.ensures c.as_chunks.ensures.front_len c.as_chunks.ensures.front) c.loop-first.first-index
    (packets_have c.args.self.now) (packets_have c.loop-first.self) (packets_have c.unset_run-2.new.self) c.loop-first.edge
    c.loop-first-test.false c.loop-first.invariant c.unset_run-2.ensures
