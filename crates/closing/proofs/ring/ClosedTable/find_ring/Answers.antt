use Rattle.std.proofs.Common.{arith}
use Rattle.std.proofs.lemmas.List.{length-take-le}
use Rattle.closing.proofs.Settling.{spotted, goes_round}
use Rattle.closing.proofs.ring.ClosedTable.find_ring.Goals as goal

pub unwrap-start-requires : goal.unwrap-start-requires
unwrap-start-requires g c =
    let st = c.args.self.now.standing.now in
    spotted st c.place_in.ensures c.walk_from-met.ensures.looped

pub returns-clause-found : goal.returns-clause-found
returns-clause-found g c =
    let st = c.args.self.now.standing.now in
    let w = c.walk_from-met in
    let q = goes_round st c.place_in.ensures c.unwrap-start.ensures w.ensures.looped in
    let size = length-take-le w.result.0 w.new.walk w.ensures.within in
    (omega (arith, q.0), omega arith, q.1)
