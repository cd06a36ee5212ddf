use Rattle.std.proofs.Common.{vec_items, refl}
use Rattle.std.proofs.lemmas.Bool.{not_from_true, not_from_false}
use Rattle.descent.specs.Lines.{serials_of}
use Rattle.words.proofs.Chain.{passes, stops, unrefused, refuses}
use Rattle.search.proofs.Spots.{here_stands, gap_stands}
use Rattle.catalogue.proofs.state.Catalogue.check_kind.Goals as goal

pub returns-in_default-clause-says : goal.returns-in_default-clause-says
returns-in_default-clause-says c =
    passes _ _ _ c.in_ok-check_serial.ensures
    (stops _ _ _ (refuses _ _ (not_from_false _ (gap_stands (serials_of (vec_items c.args.self.now.seats.kinds.entries)) _ c.in_default.field-0 c.in_default.ensures))))

pub returns-clause-says : goal.returns-clause-says
returns-clause-says c =
    passes _ _ _ c.in_ok-check_serial.ensures
    (passes _ _ _ (unrefused _ _ (not_from_true _ (here_stands (serials_of (vec_items c.args.self.now.seats.kinds.entries)) _ c.in-Ok.at c.in-Ok.ensures))) refl)
