use Rattle.std.proofs.Math.Bool.{or_assoc}
use Rattle.std.proofs.Common.{◌&&◌, ◌||◌, eqb, length, get_or, take, sym, ap, ◌∙◌, arith}
use Rattle.descent.proofs.Lines.{place_at}
use Rattle.descent.proofs.Proper.{below_at}
use Rattle.closing.specs.Tables.{sets_of, cell}
use Rattle.descent.specs.Lines.{places_of}
use Rattle.closing.specs.Direct.{own}
use Rattle.closing.proofs.Direct.{own_more}
use Rattle.closing.proofs.fill.put_kinds.Goals as goal

pub put-requires : goal.put-requires
put-requires g c =
    let kinds = c.args.kinds.now in
    let n = c.loop-kind.kind-index in
    let at = place_at kinds n (record { serial = 0; place = 0 }) c.loop-kind-test.true in
    let low = below_at (length c.args.rows.now) (places_of kinds) c.requires.low n at.0 in
    record { row = omega (arith, at.1); place = omega (arith, at.1) }

pub loop-kind-preserved : goal.loop-kind-preserved
loop-kind-preserved g c =
    let s = g.C.Truth.sort in
    let kinds = c.args.kinds.now in
    let old = sets_of s c.args.rows.now in
    let n = c.loop-kind.kind-index in
    let at = place_at kinds n (record { serial = 0; place = 0 }) c.loop-kind-test.true in
    let p = get_or (places_of kinds) n 0 in
    λ i j hi hj.
    (rw (← at.1) at (c.put.ensures i j hi hj))
    ∙ ap (λ b. b || (eqb i p && eqb j p)) (c.loop-kind.invariant i j hi hj)
    ∙ or_assoc (cell old i j) (own (take n (places_of kinds)) i j) (eqb i p && eqb j p)
    ∙ ap (λ b. cell old i j || b) (sym (own_more (places_of kinds) n i j at.0))
