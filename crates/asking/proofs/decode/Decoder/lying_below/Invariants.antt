use Rattle.std.proofs.Common.{take}
use Rattle.codes.specs.Sorts.{Agree}
use Rattle.closing.specs.Tables.{sets_of}
use Rattle.descent.specs.Lines.{places_of}
use Rattle.asking.specs.Decoding.{below_covered}
use Rattle.asking.proofs.decode.Decoder.lying_below.Given as goal

abbrev pub invariant-loop-kind : goal.invariant-loop-kind
invariant-loop-kind g l =
    let s = g.C.Truth.sort in
    Agree s.width (s.means l.below)
    (below_covered s.width (sets_of s l.self.table.now) (s.means l.self.outside) (take l.kind-index (places_of l.self.standing.now.kinds.now)))
