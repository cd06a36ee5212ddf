use Rattle.std.proofs.Common.{◌∙◌, arith}
use Rattle.closing.specs.Tables.{sets_of}
use Rattle.closing.proofs.Direct.{place-below}
use Rattle.closing.proofs.Filled.{filled_at}
use Rattle.closing.proofs.ring.ClosedTable.descends.Goals as goal

pub has-requires : goal.has-requires
has-requires g c =
    let t = c.args.self.now in
    let st = t.standing.now in
    let up = place-below st c.args.high c.requires.high_stands in
    let down = place-below st c.args.low c.requires.low_stands in
    let fits = t.fits in
    record { row = omega arith; place = omega arith }

pub returns : goal.returns
returns g c =
    let t = c.args.self.now in
    c.has.ensures
    ∙ (rw (c.place_of.ensures, c.place_of-2.ensures)
    (filled_at t.standing.now (sets_of g.C.Truth.sort t.rows.now) t.filled c.args.high c.args.low c.requires.high_stands c.requires.low_stands))
