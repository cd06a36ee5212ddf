use Rattle.std.proofs.Common.{◌≡◌, ℕ, ◌+◌, ◌*◌, ◌<◌, ◌≤◌, false, length}
use Rattle.bits.specs.Bits.{words_have}
use Rattle.bits.proofs.code.BitsCode.next.Given as goal

abbrev pub invariant-loop-i : goal.invariant-loop-i
invariant-loop-i l = (p : ℕ) → l.from ≤ p → p < (l.first + 1 + length l.yielded) * 64 → words_have l.self.words p ≡ false
