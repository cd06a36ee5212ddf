use Rattle.std.proofs.Common.{◌≡◌, Bool, cond, ◌&&◌, ltb, leb, ap, ◌∙◌, arith}
use Rattle.std.proofs.lemmas.Bool.Decides.{nat_tests}
use Rattle.packets.specs.Packets.{packets_have}
use Rattle.packets.proofs.RunLaws.{room_first, room_second, room_rest, run-rule, run_inside}
use Rattle.packets.proofs.value.Packets.with_run.Goals as goal

pub invariant_of-result : goal.invariant_of-result
invariant_of-result c = record {
  rule = run-rule c.args.self c.args.value c.if-start-stop.false (omega arith) c.below-before.ensures.count c.below-through.ensures.count c.as_slice-held.ensures
      c.empty-row.ensures c.extend.ensures c.push_if.ensures c.push_if-2.ensures c.extend-2.new.self c.extend-2.ensures;
}

pub returns : goal.returns
returns c =
    λ p h.
    let to : ltb p c.min-stop.result ≡ ltb p c.args.end = let least = c.min-stop.ensures in grind (arith, nat_tests) in
    run_inside c.args.self c.args.value c.if-start-stop.false (omega arith) c.below-before.ensures.count c.below-through.ensures.count c.as_slice-held.ensures
    c.empty-row.ensures c.extend.ensures c.push_if.ensures c.push_if-2.ensures c.extend-2.new.self c.extend-2.ensures p
    ∙ ap (λ (t : Bool). cond (leb c.args.start p && t) c.args.value (packets_have c.args.self p)) to

pub push_if-requires : goal.push_if-requires
push_if-requires c =
    room_first c.args.self c.args.value c.if-start-stop.false (omega arith) c.below-before.ensures.count c.below-through.ensures.count c.as_slice-held.ensures
    c.empty-row.ensures c.extend.ensures

pub push_if-requires-2 : goal.push_if-requires-2
push_if-requires-2 c =
    room_second c.args.self c.args.value c.if-start-stop.false (omega arith) c.below-before.ensures.count c.below-through.ensures.count c.as_slice-held.ensures
    c.empty-row.ensures c.extend.ensures c.push_if.ensures

pub extend-requires-2 : goal.extend-requires-2
extend-requires-2 c =
    room_rest c.args.self c.args.value c.if-start-stop.false (omega arith) c.below-before.ensures.count c.below-through.ensures.count c.as_slice-held.ensures
    c.empty-row.ensures c.extend.ensures c.push_if.ensures c.push_if-2.ensures
