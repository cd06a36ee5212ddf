use Rattle.std.proofs.Common.{◌≡◌, length, arith}
use Rattle.closing.specs.Tables.{sets_of}
use Rattle.closing.proofs.Filled.{closed_filled}
use Rattle.closing.proofs.fill.fill.Goals as goal

pub returns : goal.returns
returns g c =
    let s = g.C.Truth.sort in
    let st = c.args.standing.now in
    let long : length c.fill_direct.new.rows ≡ st.width = omega arith in
    closed_filled st (sets_of s c.fill_direct.new.rows) (sets_of s c.join_all.new.rows)
    (λ i j hi hj. c.fill_direct.ensures i j (omega arith) (omega arith)) (rw long at c.join_all.ensures)
