use Rattle.std.proofs.Common.{◌≡◌, false, vec_items, sym, refl, ap, ◌∙◌}
use Rattle.words.specs.Refusals.{catalogue_told}
use Rattle.descent.specs.Lines.{mentioned}
use Rattle.catalogue.specs.Ledger.{withdraw}
use Rattle.catalogue.specs.View.{view}
use Rattle.words.proofs.Chain.{passes, unrefused}
use Rattle.catalogue.proofs.KindEdits.{withdrawn_kept, withdrawn_joining}
use Rattle.catalogue.proofs.Moves.{goes, opens}
use Rattle.catalogue.proofs.state.Catalogue.withdraw.Goals as goal

pub invariant_of-self : goal.invariant_of-self
invariant_of-self c =
    let s = c.args.self.now in
    let out : mentioned c.args.serial (vec_items s.lines.entries) ≡ false = ap (mentioned c.args.serial) (sym c.as_slice.ensures) ∙ sym c.if-has_line.ensures in
    record { most = s.most; joins = withdrawn_joining _ _ _ _ c.in_ok-at.at c.unseat.ensures.freed c.args.serial s.seats.kinds.rising c.in_ok-at.ensures.at _ out s.joins }

pub returns : goal.returns
returns c =
    let s = c.args.self.now in
    let out : mentioned c.args.serial (vec_items s.lines.entries) ≡ false = ap (mentioned c.args.serial) (sym c.as_slice.ensures) ∙ sym c.if-has_line.ensures in
    goes catalogue_told (withdraw c.args.serial) (view s) _ _
    (passes _ _ _ c.in_ok-at.ensures.says (passes _ _ _ (unrefused _ _ out) refl))
    (opens (view s).book _ _ _ _ _ c.unseat.ensures.width
    (withdrawn_kept _ _ _ _ c.in_ok-at.at c.unseat.ensures.freed c.args.serial s.seats.kinds.rising c.in_ok-at.ensures.at) refl)
