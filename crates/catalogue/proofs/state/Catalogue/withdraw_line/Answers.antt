use Rattle.std.proofs.Common.{refl, ap, ◌∙◌}
use Rattle.std.proofs.lemmas.Bool.{not_from_true, not_from_false}
use Rattle.words.specs.Refusals.{catalogue_told}
use Rattle.descent.specs.Proper.{joining}
use Rattle.catalogue.specs.Ledger.{withdraw_line}
use Rattle.catalogue.specs.View.{view}
use Rattle.words.proofs.Chain.{passes, stops, unrefused, refuses}
use Rattle.catalogue.proofs.LineEdits.{line_found, line_gap}
use Rattle.catalogue.proofs.Moves.{stays, goes, opens}
use Rattle.descent.proofs.Rows.{joining_removed}
use Rattle.catalogue.proofs.state.Catalogue.withdraw_line.Goals as goal

pub returns-in_default : goal.returns-in_default
returns-in_default c =
    let s = c.args.self.now in
    let ok = c.in_ok-check_ends.ensures in
    let gap = line_gap s c.args.child c.args.parent c.in_default.field-0 ok c.key.ensures c.in_default.ensures in
    stays catalogue_told (withdraw_line c.args.child c.args.parent) (view s) _
    (passes _ _ _ ok (stops _ _ _ (refuses _ _ (not_from_false _ gap.missing))))

pub invariant_of-self : goal.invariant_of-self
invariant_of-self c =
    let s = c.args.self.now in
    let e = c.remove.ensures in
    record {
      most = e.most ∙ s.most;
      joins = ap (joining (view s).book.kinds) e.entries ∙ joining_removed (view s).book.kinds (view s).book.lines c.in-Ok.at s.joins;
    }

pub returns : goal.returns
returns c =
    let s = c.args.self.now in
    let ok = c.in_ok-check_ends.ensures in
    let found = line_found s c.args.child c.args.parent c.in-Ok.at ok c.key.ensures c.in-Ok.ensures in
    goes catalogue_told (withdraw_line c.args.child c.args.parent) (view s) _ _
    (passes _ _ _ ok (passes _ _ _ (unrefused _ _ (not_from_true _ found.stands)) refl))
    (opens (view s).book _ _ _ _ _ refl refl (c.remove.ensures.entries ∙ found.left))
