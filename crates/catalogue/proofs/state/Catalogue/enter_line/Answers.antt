use Rattle.std.proofs.Common.{length, sym, refl, ap, ◌∙◌, nat_le}
use Rattle.words.specs.Refusals.{catalogue_told}
use Rattle.descent.specs.Proper.{joining}
use Rattle.catalogue.specs.Ledger.{enter_line}
use Rattle.catalogue.specs.View.{view}
use Rattle.words.proofs.Chain.{passes, stops, unrefused, refuses}
use Rattle.catalogue.proofs.LineEdits.{LineGap, line_found, line_gap}
use Rattle.catalogue.proofs.Moves.{stays, goes, opens}
use Rattle.catalogue.proofs.state.Catalogue.enter_line.Goals as goal
use Rattle.catalogue.proofs.state.Catalogue.enter_line.Goals.{In-Err}

pub returns-in_default : goal.returns-in_default
returns-in_default c =
    let s = c.args.self.now in
    let ok = c.in_ok-check_ends.ensures in
    let found = line_found s c.args.child c.args.parent c.in_default.field-0 ok c.key.ensures c.in_default.ensures in
    stays catalogue_told (enter_line c.args.child c.args.parent) (view s) _ (passes _ _ _ ok (stops _ _ _ (refuses _ _ found.stands)))

-- what the look that found the line's gap tells of the lines
gap_at : (c : In-Err) → LineGap c.args.self.now (record { child = c.args.child; parent = c.args.parent }) c.in-Err.at
gap_at c = line_gap c.args.self.now c.args.child c.args.parent c.in-Err.at c.in_ok-check_ends.ensures c.key.ensures c.in-Err.ensures

pub returns-then-is_full : goal.returns-then-is_full
returns-then-is_full c =
    let s = c.args.self.now in
    let ok = c.in_ok-check_ends.ensures in
    let gap = gap_at (goal.at.returns-then-is_full c).In-Err in
    stays catalogue_told (enter_line c.args.child c.args.parent) (view s) _
    (passes _ _ _ ok
    (passes _ _ _ (unrefused _ _ gap.missing)
    (stops _ _ _ (refuses _ _ (ap (λ n. nat_le n (length (view s).book.lines)) (sym s.most) ∙ sym c.if-is_full.ensures)))))

pub insert-requires-clause-rising : goal.insert-requires-clause-rising
insert-requires-clause-rising c = (gap_at (goal.at.insert-requires-clause-rising c).In-Err).rising

pub invariant_of-self : goal.invariant_of-self
invariant_of-self c =
    let s = c.args.self.now in
    let gap = gap_at (goal.at.invariant_of-self c).In-Err in
    let e = c.insert.ensures in
    record { most = e.most ∙ s.most; joins = ap (joining (view s).book.kinds) e.entries ∙ gap.joins }

pub returns : goal.returns
returns c =
    let s = c.args.self.now in
    let ok = c.in_ok-check_ends.ensures in
    let gap = gap_at (goal.at.returns c).In-Err in
    goes catalogue_told (enter_line c.args.child c.args.parent) (view s) _ _
    (passes _ _ _ ok
    (passes _ _ _ (unrefused _ _ gap.missing)
    (passes _ _ _ (unrefused _ _ (ap (λ n. nat_le n (length (view s).book.lines)) (sym s.most) ∙ sym c.if-is_full.ensures)) refl)))
    (opens (view s).book _ _ _ _ _ refl refl (c.insert.ensures.entries ∙ gap.files))
