use Rattle.std.proofs.Common.{◌≡◌, length}
use lib.Bits.{bit_and}
use Rattle.bits.proofs.WordRows.{Done}
use Rattle.bits.proofs.code.BitsTruth.meet.Given as goal

abbrev pub invariant-loop-i : goal.invariant-loop-i
invariant-loop-i l = (length l.word-items ≡ 8) × Done bit_and l.fn.self.words l.other.words l.word-items l.i
