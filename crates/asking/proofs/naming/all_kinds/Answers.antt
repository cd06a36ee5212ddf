use Rattle.std.proofs.Common.{◌||◌, eqb, get_or, take, sym, ap, ◌∙◌}
use Rattle.descent.specs.declared.kind.Kind.{Kind}
use Rattle.descent.specs.Lines.{places_of, stands}
use Rattle.descent.proofs.Lines.{stands_more, place_at}
use Rattle.asking.proofs.Seats.{put_any}
use Rattle.asking.proofs.naming.all_kinds.Goals as goal

pub loop-kind-preserved : goal.loop-kind-preserved
loop-kind-preserved g c =
    let s = g.C.Truth.sort in
    let kinds = c.args.standing.now.kinds.now in
    let i = c.loop-kind.kind-index in
    let none : Kind = record { serial = 0; place = 0 } in
    let q = (get_or kinds i none).place in
    let at = place_at kinds i none c.loop-kind-test.true in
    λ p h.
    put_any s c.loop-kind.all c.put.new.self q c.put.result c.put.ensures p h
    ∙ ap (λ b. b || eqb q p) (c.loop-kind.invariant p h)
    ∙ sym (stands_more p (places_of kinds) i at.0 ∙ ap (λ j. stands p (take i (places_of kinds)) || eqb j p) at.1)
