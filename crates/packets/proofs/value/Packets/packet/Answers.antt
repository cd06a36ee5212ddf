use Rattle.std.proofs.Common.{[], sym, ◌∙◌}
use Rattle.packets.specs.Packets.{bounds_of}
use Rattle.packets.proofs.Pairs.{in_pairs, no_packet, packet_pair, belongs}
use Rattle.packets.proofs.value.Packets.packet.Goals as goal

pub returns-in_err-first : goal.returns-in_err-first
returns-in_err-first c =
    let pairs = in_pairs c.as_slice.ensures c.as_chunks.ensures.front_len c.as_chunks.ensures.front in
    record {
      value = c.from_residual.ensures ∙ sym (no_packet pairs c.args.index c.in_err-first.ensures.lookup.3);
      belongs = belongs (bounds_of c.args.self.now);
    }

pub returns : goal.returns
returns c =
    let pairs = in_pairs c.as_slice.ensures c.as_chunks.ensures.front_len c.as_chunks.ensures.front in
    let there = c.in_ok-first.ensures.lookup.3 in
    record {
      value = packet_pair pairs c.args.index there.0 (there.1 []) c.from.ensures c.from-2.ensures;
      belongs = belongs (bounds_of c.args.self.now);
    }
