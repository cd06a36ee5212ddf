use Rattle.closing.specs.Tables.{sets_of}
use Rattle.asking.specs.Decoding.{chosen}
use Rattle.asking.proofs.Written.{Written}
use Rattle.asking.proofs.decode.Decoder.write_names.Given as goal

-- the names of the chosen kinds among those passed are written
abbrev pub invariant-loop-kind : goal.invariant-loop-kind
invariant-loop-kind g l =
    let s = g.C.Truth.sort in
    let d = l.self in
    Written (chosen s.width (sets_of s d.table.now) (s.means d.outside) (s.means l.below)) d.standing.now.kinds.now l.initial.answer l.kind-index l.answer l.count
