use Rattle.std.proofs.Common.{ltb, rules}
use Rattle.std.proofs.lemmas.List.Sorted.{IsPartitionPoint-from_clause, IsPartitionedBy-ltb}
use Rattle.search.proofs.Halving.{keys_rise, parted_at}
use Rattle.search.proofs.spot.count_below.Goals as goal

pub returns : goal.returns
returns g c =
    let key = g.T.Keyed.key in
    let xs = c.args.items.now in
    let x = c.args.key in
    let facts = c.partition_point.ensures in
    record {
      within = facts.bound;
      cut = λ up. parted_at key xs x _ facts.bound (IsPartitionPoint-from_clause (λ y. ltb (key y) x) xs _ facts.partitioned (IsPartitionedBy-ltb key xs x (keys_rise key xs up)) (λ a r f' called. search rules));
    }
