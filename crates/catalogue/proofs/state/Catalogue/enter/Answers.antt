use Rattle.std.proofs.Common.{vec_items, sym, refl, ap, ◌∙◌, nat_le}
use Rattle.std.proofs.lemmas.List.{length-map}
use Rattle.words.specs.Refusals.{catalogue_told}
use Rattle.catalogue.specs.Ledger.{enter}
use Rattle.catalogue.specs.View.{view}
use Rattle.words.proofs.Chain.{passes, stops, unrefused, refuses, good_serial}
use Rattle.catalogue.proofs.KindEdits.{entered_filed, entered_joining}
use Rattle.catalogue.proofs.Moves.{stays, goes, opens}
use Rattle.search.proofs.Spots.{here_stands, gap_stands, rising_inserted}
use Rattle.catalogue.proofs.state.Catalogue.enter.Goals as goal

pub returns-in_default : goal.returns-in_default
returns-in_default c =
    let s = c.args.self.now in
    stays catalogue_told (enter c.args.serial) (view s) _
    (passes _ _ _ c.in_ok-check_serial.ensures (stops _ _ _ (refuses _ _ (here_stands (view s).book.kinds _ c.in_default.field-0 c.in_default.ensures))))

pub returns-then-is_full : goal.returns-then-is_full
returns-then-is_full c =
    let s = c.args.self.now in
    stays catalogue_told (enter c.args.serial) (view s) _
    (passes _ _ _ c.in_ok-check_serial.ensures
    (passes _ _ _ (unrefused _ _ (gap_stands (view s).book.kinds _ c.in-Err.at c.in-Err.ensures))
    (stops _ _ _ (refuses _ _ (ap (nat_le (view s).book.wide) (length-map (vec_items s.seats.kinds.entries) (λ k. k.serial)) ∙ sym c.if-is_full.ensures)))))

pub seat-requires-clause-rising : goal.seat-requires-clause-rising
seat-requires-clause-rising c =
    let s = c.args.self.now in
    let good = good_serial c.args.serial 0 c.in_ok-check_serial.ensures in
    rising_inserted 0 (view s).book.kinds c.args.serial c.in-Err.at s.seats.kinds.rising good.0 c.in-Err.ensures

pub invariant_of-self : goal.invariant_of-self
invariant_of-self c =
    let s = c.args.self.now in
    record { most = s.most; joins = entered_joining _ _ _ _ _ c.in-Err.at c.seat.ensures.seated _ s.joins }

pub returns : goal.returns
returns c =
    let s = c.args.self.now in
    goes catalogue_told (enter c.args.serial) (view s) _ _
    (passes _ _ _ c.in_ok-check_serial.ensures
    (passes _ _ _ (unrefused _ _ (gap_stands (view s).book.kinds _ c.in-Err.at c.in-Err.ensures))
    (passes _ _ _ (unrefused _ _ (ap (nat_le (view s).book.wide) (length-map (vec_items s.seats.kinds.entries) (λ k. k.serial)) ∙ sym c.if-is_full.ensures)) refl)))
    (opens (view s).book _ _ _ _ _ c.seat.ensures.width (entered_filed _ _ _ _ _ c.in-Err.at c.seat.ensures.seated c.in-Err.ensures) refl)
