use Rattle.std.proofs.Common.{sym}
use Rattle.bits.specs.Bits.{words_have}
use Rattle.packets.specs.Packets.{packets_have}
use Rattle.recode.proofs.Scan.{scan_all, twins}
use Rattle.recode.proofs.between.packets_of.Goals as goal

pub returns : goal.returns
returns c =
    let bits = c.args.bits.now in
    let packets = c.loop-start.packets in
    twins bits packets (λ p h. sym (scan_all (words_have bits.words) (packets_have packets) c.loop-start.from c.loop-start.invariant c.in_default.ensures p h))
