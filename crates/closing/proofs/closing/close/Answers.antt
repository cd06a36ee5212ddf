use Rattle.std.proofs.Common.{◌≤◌, length, arith}
use Rattle.std.proofs.lemmas.List.{length-take-le}
use Rattle.std.proofs.lemmas.Grind.{common_steps}
use Rattle.closing.specs.Lists.{lent_at}
use Rattle.closing.proofs.Settling.{closed_left, ringed_left, round_shows, round_told, ring_refused}
use Rattle.closing.proofs.closing.close.Goals as goal

pub returns-in-Some-clause-told : goal.returns-in-Some-clause-told
returns-in-Some-clause-told g c =
    let st = c.args.standing.now in
    ring_refused st.width g.C.Truth.sort.width st (lent_at c.args.lists) (rw c.places.ensures at c.in_ok-check.ensures)
    (round_shows st c.in-Some.ensures.found.2)

pub returns-in-Some-clause-left : goal.returns-in-Some-clause-left
returns-in-Some-clause-left g c =
    let st = c.args.standing.now in
    let f = c.in-Some.ensures.found in
    let room : st.width ≤ length c.args.lists.walk.now = grind (arith, common_steps) in
    let size = length-take-le st.width c.args.lists.walk.now room in
    let steps = c.find_ring.auto.walk in
    ringed_left g.C.Truth.sort st (lent_at c.args.lists) c.clear.new.rows c.find_ring.new.marks c.find_ring.new.walk c.write_ring.new.ring
    (omega arith) (omega arith) c.in-Some.ensures.clear room c.find_ring.auto.walk c.clear.ensures
    (round_told st c.find_ring.new.walk _ f.0 (omega arith) f.2 c.write_ring.ensures)

pub returns-clause-left : goal.returns-clause-left
returns-clause-left g c =
    let st = c.args.standing.now in
    closed_left g.C.Truth.sort st (lent_at c.args.lists) c.fill.new.rows c.find_ring.new.marks c.find_ring.new.walk
    (omega arith) c.in_default.ensures.clear (grind (arith, common_steps)) c.find_ring.auto.walk c.fill.ensures
