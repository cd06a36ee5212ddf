use Rattle.std.proofs.Common.{◌+◌, ◌∙◌, arith, length-set}
use Rattle.std.proofs.lemmas.List.{drop-set-lt}
use Rattle.packets.proofs.Filled.{bounds_count, clear_from}
use Rattle.packets.proofs.bounds.Bounds.push.Goals as goal

pub invariant_of-self : goal.invariant_of-self
invariant_of-self c =
    let b = c.self.inside in
    let count = bounds_count b c.args.self.now c.self.invariant c.self.view_is in
    record { whole = simp length-set c.self.invariant.whole; few = omega arith; clear = drop-set-lt (b.len + 1) b.at b.len c.args.bound (omega arith) ∙ clear_from b (b.len + 1) c.self.invariant (omega arith) }
