use Rattle.std.proofs.Common.{◌≡◌, ℕ, Some, get_or, sym, ap, ◌∙◌, subst, arith}
use Rattle.codes.specs.Sorts.{Next}
use Rattle.packets.specs.Packets.{bounds_of, packets_have}
use Rattle.packets.specs.Found.{next_here, next_packet, next_none}
use Rattle.packets.proofs.code.PacketsCode.next.Goals as goal

pub returns-then-passed-eq1 : goal.returns-then-passed-eq1
returns-then-passed-eq1 c = next_here c.args.self.now c.args.from c.below-passed.result c.below-passed.ensures.count (omega arith) (omega arith)

pub returns-in_err-bound : goal.returns-in_err-bound
returns-in_err-bound c =
    let v = c.args.self.now in
    subst (Next 512 (packets_have v) c.args.from) (sym c.from_residual.ensures)
    (next_none v c.args.from c.below-passed.result c.below-passed.ensures.count (rw (← c.as_slice.ensures) c.in_err-bound.ensures.lookup.3))

pub returns : goal.returns
returns c =
    let v = c.args.self.now in
    let k = c.below-passed.result in
    let there = c.in_ok-bound.ensures.lookup.3 in
    let same : c.from.result ≡ get_or (bounds_of v) k 0 = c.from.ensures ∙ there.1 0 ∙ ap (λ xs. get_or xs k 0) c.as_slice.ensures in
    subst (λ (q : ℕ). Next 512 (packets_have v) c.args.from (Some q)) (sym same)
    (next_packet v c.args.from k c.below-passed.ensures.count c.if-passed-eq1.false (rw (← c.as_slice.ensures) there.0))
