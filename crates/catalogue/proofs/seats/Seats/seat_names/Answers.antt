use Rattle.std.proofs.Common.{vec_items}
use Rattle.descent.specs.Lines.{serials_of}
use Rattle.catalogue.proofs.Filling.{named_rising}
use Rattle.catalogue.proofs.seats.Seats.seat_names.Goals as goal

pub seat-requires-clause-rising : goal.seat-requires-clause-rising
seat-requires-clause-rising c =
    let l = c.loop-at in
    named_rising c.args.names.now (serials_of (vec_items l.self.kinds.entries)) l.at c.low_bits.result c.loop-at-test.true l.invariant.serials c.low_bits.ensures c.requires.rising
