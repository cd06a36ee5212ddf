use Rattle.std.proofs.Common.{◌&&◌, arith}
use lib.Bits.{bit_and}
use Rattle.std.proofs.lemmas.Nat.{and_le_l}
use Rattle.bits.proofs.Digits.{digit_and}
use Rattle.bits.proofs.WordRows.{done_fit, done_all}
use Rattle.bits.proofs.code.BitsTruth.meet.Goals as goal

pub invariant_of-self-clause-fits : goal.invariant_of-self-clause-fits
invariant_of-self-clause-fits c =
    let self = c.args.self.now in
    let other = c.args.other.now in
    done_fit bit_and self.words other.words c.loop-i.word-items c.loop-i.i self.fits other.fits c.loop-i.invariant.1
    (λ m n h k. omega (arith, and_le_l m n))

pub returns : goal.returns
returns c =
    done_all bit_and ◌&&◌ c.args.self.now.words c.args.other.now.words c.loop-i.word-items c.loop-i.i (omega arith) c.args.self.now.fits c.loop-i.invariant.1
    (λ m n p _ _. digit_and m n p)
