use Rattle.std.proofs.Common.{◌≡◌, ◌-◌, ◌^◌, length}
use Rattle.bits.proofs.WordRows.{Done}
use Rattle.bits.proofs.code.BitsTruth.complement.Given as goal

abbrev pub invariant-loop-word : goal.invariant-loop-word
invariant-loop-word l = (length l.word-items ≡ 8) × Done (λ n _. (2 ^ 64 - 1) - n) l.fn.self.words l.fn.self.words l.word-items l.word-index
