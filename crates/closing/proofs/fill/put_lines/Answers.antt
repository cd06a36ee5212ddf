use Rattle.std.proofs.Math.Bool.{or_assoc}
use Rattle.std.proofs.Common.{ℕ, Bool, ◌&&◌, ◌||◌, eqb, take, sym, ap, ◌∙◌, arith}
use Rattle.closing.specs.Tables.{sets_of, cell}
use Rattle.closing.specs.Direct.{place_of, linked}
use Rattle.closing.proofs.Direct.{line_at, linked_more, line_ends, place-below}
use Rattle.closing.proofs.fill.put_lines.Goals as goal

pub place_of-requires : goal.place_of-requires
place_of-requires g c = (line_ends c.args.standing.now c.loop-line.line-index c.loop-line-test.true).1

pub place_of-requires-in-loop-line : goal.place_of-requires-in-loop-line
place_of-requires-in-loop-line g c = (line_ends c.args.standing.now c.loop-line.line-index c.loop-line-test.true).0

pub put-requires : goal.put-requires
put-requires g c =
    let st = c.args.standing.now in
    let ends = line_ends st c.loop-line.line-index c.loop-line-test.true in
    let l = line_at st.lines.now c.loop-line.line-index in
    let up = place-below st l.parent ends.1 in
    let low = place-below st l.child ends.0 in
    record { row = omega arith; place = omega arith }

pub loop-line-preserved : goal.loop-line-preserved
loop-line-preserved g c =
    let st = c.args.standing.now in
    let kinds = st.kinds.now in
    let lines = st.lines.now in
    let old = sets_of g.C.Truth.sort c.args.rows.now in
    let n = c.loop-line.line-index in
    let l = line_at lines n in
    let here : ℕ → ℕ → Bool = λ i j. eqb i (place_of kinds l.parent) && eqb j (place_of kinds l.child) in
    λ i j hi hj.
    (rw (c.place_of.ensures, c.place_of-in-loop-line.ensures) at (c.put.ensures i j hi hj))
    ∙ ap (λ b. b || here i j) (c.loop-line.invariant i j hi hj)
    ∙ or_assoc (cell old i j) (linked kinds (take n lines) i j) (here i j)
    ∙ ap (λ b. cell old i j || b) (sym (linked_more kinds lines n i j (record { child = 0; parent = 0 }) c.loop-line-test.true))
