use Rattle.std.proofs.Common.{sym, ◌∙◌, arith}
use Rattle.descent.proofs.Lines.{line_stands_at}
use Rattle.descent.proofs.Descent.{leads_from, descends_decided}
use Rattle.closing.proofs.Direct.{line_at, line_ends}
use Rattle.closing.proofs.Filled.{round_none}
use Rattle.closing.proofs.ring.ClosedTable.on_ring.Goals as goal

pub descends-requires : goal.descends-requires
descends-requires g c =
    let ends = line_ends c.args.self.now.standing.now c.loop-line.line-index c.loop-line-test.true in
    record { low_stands = ends.1; high_stands = ends.0 }

pub returns-then-descends : goal.returns-then-descends
returns-then-descends g c =
    let ls = c.args.self.now.standing.now.lines.now in
    let l = line_at ls c.loop-line.line-index in
    leads_from (line_stands_at ls c.loop-line.line-index (record { child = 0; parent = 0 }) c.loop-line-test.true)
    ((descends_decided ls l.parent l.child).0 (sym c.descends.ensures ∙ c.if-descends.true))

pub returns : goal.returns
returns g c =
    let ls = c.args.self.now.standing.now.lines.now in
    round_none ls ls (λ m h. c.loop-line.invariant m (omega arith))
