use Rattle.std.proofs.Common.{sym, ◌∙◌}
use Rattle.descent.proofs.Lines.{place_at}
use Rattle.closing.proofs.Direct.{cut-stands}
use Rattle.closing.proofs.find.place_of.Goals as goal

pub bounds-standing-at : goal.bounds-standing-at
bounds-standing-at c =
    let st = c.args.standing.now in
    (cut-stands st c.args.serial c.count_below-at.result c.requires (c.count_below-at.ensures.cut st.rising)).0

pub returns : goal.returns
returns c =
    let st = c.args.standing.now in
    let q = cut-stands st c.args.serial c.count_below-at.result c.requires (c.count_below-at.ensures.cut st.rising) in
    sym (place_at st.kinds.now c.count_below-at.result (record { serial = 0; place = 0 }) q.0).1 ∙ sym q.1
