use Rattle.std.proofs.Common.{rules, of_calls, ltb}
use Rattle.std.proofs.lemmas.Fn.{always_returns_same}
use Rattle.packets.specs.Packets.{bounds_of}
use Rattle.packets.specs.Found.{rising}
use Rattle.packets.proofs.Halving.{low_first, point_counts}
use Rattle.packets.proofs.value.Packets.below.Goals as goal

pub returns-clause-count : goal.returns-clause-count
returns-clause-count c =
    let v = c.args.self.now in
    let n = c.args.n in
    let key = always_returns_same _ _ _ (λ a r f k. search (rules, of_calls)) in
    rw (← c.as_slice.ensures)
    (point_counts 512 n c.as_slice.result.now c.partition_point.result (rw c.as_slice.ensures (rising v)) c.partition_point.ensures.bound
    (c.partition_point.ensures.partitioned (λ b. ltb b n) key (rw c.as_slice.ensures (low_first 512 0 n (bounds_of v) (rising v)))))
