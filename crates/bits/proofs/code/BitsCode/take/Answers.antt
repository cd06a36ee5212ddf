use Rattle.std.proofs.Common.{arith}
use Rattle.bits.proofs.WordRows.{take-place}
use Rattle.bits.proofs.code.BitsCode.take.Goals as goal

pub returns : goal.returns
returns c =
    let below = c.in_ok-within_width.ensures.below in
    (below, λ p _. take-place c.args.self.now.words c.args.place (omega arith) p)
