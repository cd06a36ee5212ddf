use Rattle.std.proofs.Common.{◌≡◌, ◌+◌, map, vec_items, vec_len, ap, ◌∙◌, arith, rules}
use Rattle.std.specs.List.{insert}
use Rattle.descent.specs.Order.{rising_from}
use Rattle.descent.proofs.Rows.{map_inserted}
use Rattle.catalogue.proofs.sorted.Sorted.insert.Goals as goal

pub invariant_of-self-else-at-len : goal.invariant_of-self-else-at-len
invariant_of-self-else-at-len g c =
    let s = c.args.self.now in
    let key = g.T.Keyed.key in
    let e = c.insert.ensures in
    let items : vec_items c.insert.new.self ≡ insert (vec_items s.entries) c.args.at c.args.entry = search rules in
    let len : vec_len c.insert.new.self ≡ vec_len s.entries + 1 = search rules in
    record {
      room = omega (arith, e.capacity, s.room);
      few = omega (arith, len, c.requires.room);
      rising = ap (λ xs. rising_from 0 (map key xs)) items ∙ ap (rising_from 0) (map_inserted key (vec_items s.entries) c.args.at c.args.entry) ∙ c.requires.rising;
    }
