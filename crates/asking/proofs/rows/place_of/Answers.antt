use Rattle.std.proofs.Common.{sym, refl, ◌∙◌, arith}
use Rattle.std.proofs.lemmas.Bool.{not_from_true}
use Rattle.descent.proofs.Lines.{stands-found}
use Rattle.catalogue.specs.View.{view}
use Rattle.words.proofs.Chain.{passes, unrefused}
use Rattle.asking.proofs.Seats.{seat_at, view_placed}
use Rattle.asking.proofs.rows.place_of.Goals as goal

pub returns : goal.returns
returns c =
    let v = view c.args.catalogue.now in
    let placed = view_placed c.args.catalogue.now in
    let found = c.in-Some.ensures in
    let st = stands-found c.args.serial v.book.kinds found.at found.within found.named in
    record {
      refused = passes _ _ _ c.in_ok-check_serial.ensures (passes _ _ _ (unrefused _ _ (not_from_true _ st)) refl);
      stood = st;
      value = found.place_is ∙ sym (seat_at v.book.kinds v.places found.at c.args.serial placed.different placed.paired found.within found.named);
      within = omega (arith, placed.below found.at found.within, found.place_is);
    }
