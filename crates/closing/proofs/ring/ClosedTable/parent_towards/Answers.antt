use Rattle.std.proofs.Common.{◌+◌, sym, refl, ◌∙◌, arith}
use Rattle.std.proofs.lemmas.Bool.{both_ways}
use Rattle.descent.specs.Descent.{descends}
use Rattle.descent.proofs.Lines.{line-found}
use Rattle.closing.proofs.Direct.{line_at, line_ends}
use Rattle.closing.proofs.Filled.{rest_at, rest_size, led_stands, leading, same_child}
use Rattle.closing.proofs.ring.ClosedTable.parent_towards.Goals as goal

pub descends-requires : goal.descends-requires
descends-requires g c =
    let st = c.args.self.now.standing.now in
    let at = rest_at st c.count_below-first.result c.loop-line.line-index c.count_below-first.ensures.within c.loop-line-test.true in
    record { low_stands = rw at.1 (line_ends st _ at.0).1; high_stands = led_stands st c.requires }

pub unreachable-requires : goal.unreachable-requires
unreachable-requires g c =
    let st = c.args.self.now.standing.now in
    let first = c.count_below-first.result in
    let q = leading st c.args.kind c.args.top first c.requires (rw c.key.ensures at (c.count_below-first.ensures.cut st.ordered)) in
    let size = rest_size st first in
    both_ways (descends st.lines.now (line_at st.lines.now q.0).parent c.args.top) (c.loop-line.invariant q.0 q.1 (omega (arith, q.2))) q.4

pub returns-then-descends : goal.returns-then-descends
returns-then-descends g c =
    let st = c.args.self.now.standing.now in
    let ls = st.lines.now in
    let first = c.count_below-first.result in
    let i = c.loop-line.line-index in
    let at = rest_at st first i c.count_below-first.ensures.within c.loop-line-test.true in
    let own = same_child st c.args.kind c.args.top first c.requires (rw c.key.ensures at (c.count_below-first.ensures.cut st.ordered))
    (first + i) (omega arith) at.0 c.loop-line.invariant in
    record {
      line = rw at.1 (line-found c.args.kind (line_at ls (first + i)).parent ls (first + i) (record { child = 0; parent = 0 }) at.0 own refl);
      leads_on = sym c.descends.ensures ∙ c.if-descends.true;
    }
