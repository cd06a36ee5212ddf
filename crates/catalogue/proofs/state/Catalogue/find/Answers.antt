use Rattle.std.proofs.Common.{vec_items}
use Rattle.descent.specs.Lines.{serials_of}
use Rattle.search.proofs.Spots.{gap_stands}
use Rattle.catalogue.proofs.state.Catalogue.find.Goals as goal

pub returns-in_default : goal.returns-in_default
returns-in_default c = gap_stands (serials_of (vec_items c.args.self.now.seats.kinds.entries)) _ c.in_default.field-0 c.in_default.ensures
