use Rattle.std.proofs.Common.{◌≡◌, take, vec_items, vec_capacity}
use Rattle.descent.specs.Lines.{serials_of}
use Rattle.formats.specs.Formats.{serials_in}
use Rattle.catalogue.proofs.seats.Seats.seat_names.Given as goal

-- a kind is seated for each name passed
abbrev pub invariant-loop-at : goal.invariant-loop-at
invariant-loop-at l =
    record {
      serials : serials_of (vec_items l.self.kinds.entries) ≡ serials_in (take l.at l.names);
      width : l.self.kinds.most ≡ l.initial.self.kinds.most;
      capacity : vec_capacity l.self.kinds.entries ≡ vec_capacity l.initial.self.kinds.entries;
      places : vec_capacity l.self.free ≡ vec_capacity l.initial.self.free;
    }
