use Rattle.std.proofs.Common.{◌&&◌, ◌||◌, ltb, leb}
use Rattle.bits.specs.Bits.{words_have}
use Rattle.packets.specs.Packets.{bounds_of}
use Rattle.codes.specs.Sorts.{Agree}
use Rattle.recode.proofs.Runs.{in_first}
use Rattle.recode.proofs.between.bits_of.Given as goal

abbrev pub invariant-loop-place : goal.invariant-loop-place
invariant-loop-place l =
    Agree 512 (words_have l.bits.words) (λ p. (leb l.first p && (ltb p l.place && ltb p l.after)) || in_first l.index (bounds_of l.packets) p)

abbrev pub invariant-loop-index : goal.invariant-loop-index
invariant-loop-index l = Agree 512 (words_have l.bits.words) (in_first l.index (bounds_of l.packets))
