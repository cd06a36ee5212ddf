use Rattle.std.proofs.Common.{take}
use Rattle.codes.specs.Sorts.{Agree}
use Rattle.descent.specs.Lines.{places_of, stands}
use Rattle.asking.proofs.naming.all_kinds.Given as goal

abbrev pub invariant-loop-kind : goal.invariant-loop-kind
invariant-loop-kind g l =
    Agree g.C.Truth.sort.width (g.C.Truth.sort.means l.all) (λ p. stands p (take l.kind-index (places_of l.standing.kinds.now)))
