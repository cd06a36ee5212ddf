use Rattle.std.proofs.Common.{◌||◌, arith}
use lib.Bits.{bit_or, or_lt}
use Rattle.bits.proofs.Digits.{digit_or}
use Rattle.bits.proofs.WordRows.{done_fit, done_all}
use Rattle.bits.proofs.code.BitsTruth.join.Goals as goal

pub invariant_of-self-clause-fits : goal.invariant_of-self-clause-fits
invariant_of-self-clause-fits c =
    let self = c.args.self.now in
    let other = c.args.other.now in
    done_fit bit_or self.words other.words c.loop-i.word-items c.loop-i.i self.fits other.fits c.loop-i.invariant.1 (or_lt 64)

pub returns : goal.returns
returns c =
    done_all bit_or ◌||◌ c.args.self.now.words c.args.other.now.words c.loop-i.word-items c.loop-i.i (omega arith) c.args.self.now.fits c.loop-i.invariant.1
    (λ m n p _ _. digit_or m n p)
