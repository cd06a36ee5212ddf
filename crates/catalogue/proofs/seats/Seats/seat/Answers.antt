use Rattle.std.proofs.Common.{◌^◌, vec_items, arith}
use Rattle.catalogue.specs.Seats.{Seated}
use Rattle.catalogue.proofs.KindEdits.{entered_below, entered_seats}
use Rattle.catalogue.proofs.seats.Seats.seat.Goals as goal

pub invariant_of-self : goal.invariant_of-self
invariant_of-self c =
    let s = c.args.self.now in
    let before = vec_items s.kinds.entries in
    let after = vec_items c.insert.new.self.entries in
    let place = c.take_last-place in
    let done : Seated c.args.serial c.args.at before (vec_items s.free) after (vec_items place.new.self) =
    (place.result, place.ensures.items, c.insert.ensures.entries) in
    let kept = c.insert.ensures.most in
    record {
      wide = (omega (arith, kept, s.wide.0), omega (arith, kept, s.wide.1));
      room = omega (arith, kept, place.ensures.capacity, s.room);
      serials = entered_below before after (vec_items s.free) (vec_items place.new.self) c.args.serial c.args.at done (2 ^ 28) c.requires.low s.serials;
      seats = rw kept (entered_seats before after (vec_items s.free) (vec_items place.new.self) c.args.serial c.args.at done s.kinds.most s.seats);
    }
