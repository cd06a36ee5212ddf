use Rattle.std.proofs.Common.{◌-◌, ◌^◌, not, arith}
use Rattle.bits.proofs.Digits.{digit_not}
use Rattle.bits.proofs.WordRows.{done_fit, done_all}
use Rattle.bits.proofs.code.BitsTruth.complement.Goals as goal

pub invariant_of-self-clause-fits : goal.invariant_of-self-clause-fits
invariant_of-self-clause-fits c =
    let self = c.args.self.now in
    done_fit (λ n _. (2 ^ 64 - 1) - n) self.words self.words c.loop-word.word-items c.loop-word.word-index self.fits self.fits c.loop-word.invariant.1
    (λ m n h k. omega arith)

pub returns : goal.returns
returns c =
    done_all (λ n _. (2 ^ 64 - 1) - n) (λ t _. not t) c.args.self.now.words c.args.self.now.words c.loop-word.word-items c.loop-word.word-index
    (omega arith) c.args.self.now.fits c.loop-word.invariant.1 (λ m _ p. digit_not m p)
