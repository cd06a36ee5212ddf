use Rattle.std.proofs.Common.{rules}
use Rattle.packets.proofs.RunLaws.{turn_parts, turn_room_middle, turn_room_last, turn-rule-at, turn-inside-at}
use Rattle.packets.proofs.value.Packets.turned.Goals as goal

pub slice_bounds-extend-count : goal.slice_bounds-extend-count
slice_bounds-extend-count c = turn_parts c.args.self c.below-from.ensures.count c.below-to.ensures.count

pub slice_bounds-extend-start : goal.slice_bounds-extend-start
slice_bounds-extend-start c = let order = turn_parts c.args.self c.below-from.ensures.count c.below-to.ensures.count in search rules

pub extend-requires : goal.extend-requires
extend-requires c = turn_room_middle c.args.self c.below-from.ensures.count c.below-to.ensures.count c.as_slice-held.ensures c.empty-row.ensures c.push_if.ensures

pub push_if-requires-2 : goal.push_if-requires-2
push_if-requires-2 c =
    turn_room_last c.args.self c.below-from.ensures.count c.below-to.ensures.count c.as_slice-held.ensures c.empty-row.ensures c.push_if.ensures c.extend.ensures

pub invariant_of-result : goal.invariant_of-result
invariant_of-result c = record {
  rule = turn-rule-at c.args.self c.below-from.ensures.count c.below-to.ensures.count c.as_slice-held.ensures
      c.empty-row.ensures c.push_if.ensures c.extend.ensures c.push_if-2.new.self c.push_if-2.ensures;
}

pub returns : goal.returns
returns c =
    turn-inside-at c.args.self c.below-from.ensures.count c.below-to.ensures.count c.as_slice-held.ensures
    c.empty-row.ensures c.push_if.ensures c.extend.ensures c.push_if-2.new.self c.push_if-2.ensures
