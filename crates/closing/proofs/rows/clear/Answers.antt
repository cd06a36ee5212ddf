use Rattle.std.proofs.Common.{ap, ◌∙◌}
use Rattle.closing.proofs.Cells.{copies_empty}
use Rattle.closing.proofs.rows.clear.Goals as goal

pub returns : goal.returns
returns g c =
    let s = g.C.Truth.sort in
    rw c.fill_copied.ensures
    (copies_empty s _ c.write.result (λ b h.
    ap (λ r. s.reads r b) c.write.ensures ∙ g.met.C.Truth.lawful.back c.empty-empty.result b h ∙ c.empty-empty.ensures b h))
