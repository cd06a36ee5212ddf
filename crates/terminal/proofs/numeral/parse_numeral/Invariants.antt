use Rattle.std.proofs.Common.{◌≡◌, ◌^◌, ◌<◌, drop}
use Rattle.terminal.proofs.Digits.{numeral_after}
use Rattle.terminal.proofs.numeral.parse_numeral.Given as goal

abbrev pub invariant-loop-byte : goal.invariant-loop-byte
invariant-loop-byte l = (numeral_after l.base l.value (drop l.byte-index l.field) ≡ numeral_after l.base 0 l.field) × (l.value < 2 ^ 32)
