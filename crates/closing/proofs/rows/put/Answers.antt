use Rattle.std.proofs.Common.{◌||◌, eqb, sym, ap, ◌∙◌}
use Rattle.closing.proofs.Cells.{cell_read, changed_within, put_cells}
use Rattle.closing.proofs.rows.put.Goals as goal

pub returns : goal.returns
returns g c =
    let s = g.C.Truth.sort in
    let a = c.args in
    let rows = a.rows.now in
    put_cells s rows a.i a.j c.write.result c.requires.row (λ j h.
    ap (λ r. s.reads r j) c.write.ensures
    ∙ g.met.C.Truth.lawful.back c.put.new.self j h
    ∙ changed_within s c.read-row.result c.put.new.self a.j (λ p. eqb p a.j || s.means c.read-row.result p) c.put.result c.put.ensures c.requires.place j h
    ∙ ap (λ b. eqb j a.j || b)
    (c.read-row.ensures.set j h ∙ sym (cell_read s rows a.i j c.index-rows-i.result c.requires.row c.index-rows-i.is)))
