use Rattle.std.proofs.Common.{◌+◌, ◌-◌, length, ap, ◌∙◌, arith}
use Rattle.std.proofs.lemmas.Slice.{drop-put_mid}
use borrow.Rule.Slice.PartMut.{same_len_mid}
use Rattle.packets.proofs.Filled.{bounds_count, clear_from}
use Rattle.packets.proofs.bounds.Bounds.extend.Goals as goal

pub invariant_of-self : goal.invariant_of-self
invariant_of-self c =
    let b = c.self.inside in
    let more = c.args.more.now in
    let count = bounds_count b c.args.self.now c.self.invariant c.self.view_is in
    let copied = c.copy_from_slice.new.self in
    let long = ap length c.copy_from_slice.ensures.after in
    record {
      whole = same_len_mid b.len (b.len + length more - b.len) b.at copied c.copy_from_slice.ensures.len ∙ c.self.invariant.whole;
      few = omega arith;
      clear = drop-put_mid b.len (b.len + length more - b.len) b.at copied (b.len + length more) (omega arith) (omega arith) (omega arith)
          ∙ clear_from b (b.len + length more) c.self.invariant (omega arith);
    }
