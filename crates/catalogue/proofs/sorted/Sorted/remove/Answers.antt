use Rattle.std.proofs.Common.{vec_items, ap, ◌∙◌, arith, map}
use Rattle.descent.specs.Order.{rising_from}
use Rattle.descent.proofs.Rising.{rising_removed}
use Rattle.descent.proofs.Rows.{map_removed}
use Rattle.catalogue.proofs.sorted.Sorted.remove.Goals as goal

pub invariant_of-self : goal.invariant_of-self
invariant_of-self g c =
    let s = c.args.self.now in
    let key = g.T.Keyed.key in
    let e = c.remove.ensures in
    record {
      room = omega (arith, e.capacity, s.room);
      few = omega (arith, e.len, s.few);
      rising = ap (λ xs. rising_from 0 (map key xs)) e.items ∙ ap (rising_from 0) (map_removed key (vec_items s.entries) c.args.at)
          ∙ rising_removed 0 (map key (vec_items s.entries)) c.args.at s.rising;
    }
