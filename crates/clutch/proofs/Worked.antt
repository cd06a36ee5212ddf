-- The worked cases, each by computing it.
use Rattle.std.proofs.Common.{refl}
use Rattle.clutch.specs.Worked.{Worked, Loaded, Asked, Knotted, Fitted, Faulty, Recalled}
use Rattle.clutch.proofs.Answering.{name_means_descent, answered_by_uppermost}
use Rattle.clutch.proofs.Knot.{ring, only}

loaded : Loaded
loaded = record { closed = refl; kinds = refl; lines = refl; written = refl }

asked : Asked
asked = record {
  ten_and_forty = record { accepted = refl; words = refl };
  ten_or_forty = record { accepted = refl; words = refl };
  all_kinds = record { accepted = refl; words = refl };
  not_twenty = record { accepted = refl; words = refl };
  not_not_twenty = record { accepted = refl; words = refl };
  twenty_or_thirty = record { accepted = refl; words = refl };
  ten_and_not_twenty = record { accepted = refl; words = refl };
  twenty_and_thirty = record { accepted = refl; words = refl };
  no_kinds = record { accepted = refl; words = refl };
}

knot : Knotted
knot = record {
  lines = refl;
  closing-refused = refl;
  ring_stands = ring;
  no_other = only;
}

fitted : Fitted
fitted = record {
  ten = record { accepted = refl; value = refl };
  twenty = record { accepted = refl; value = refl };
}

faulty : Faulty
faulty = record {
  unknown = refl;
  lone_and = refl;
  two_left = refl;
  deepest = refl;
  too_deep = refl;
  too_long = refl;
}

recalled : Recalled
recalled = record {
  gone = record { accepted = refl; words = refl };
  again = record { accepted = refl; words = refl };
}

pub worked : Worked
worked = record {
  loaded = loaded;
  asked = asked;
  names = name_means_descent;
  uppermost = answered_by_uppermost;
  knot = knot;
  fitted = fitted;
  faulty = faulty;
  recalled = recalled;
}
