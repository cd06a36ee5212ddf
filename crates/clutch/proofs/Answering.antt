-- The set of a name is what descends from it, and the kinds that answer a question are the uppermost ones for its set.
use Rattle.std.proofs.Common.{◌≡◌, sym, ◌∙◌, arith}
use Rattle.std.proofs.lemmas.Bool.{and_parts, and_from}
use Rattle.descent.specs.Lines.{stands}
use Rattle.descent.specs.Coverage.{uppermost}
use Rattle.descent.proofs.Descent.{descends_decided}
use Rattle.descent.proofs.Coverage.{uppermost_decided}
use Rattle.descent.proofs.Rows.{kept_stands}
use Rattle.words.specs.Words.{kind_number, low_bits}
use Rattle.catalogue.specs.Ledger.{set_of}
use Rattle.clutch.specs.Clutch.{name}
use Rattle.clutch.specs.Worked.{NameMeansDescent, AnsweredByUppermost}

pub name_means_descent : NameMeansDescent
name_means_descent l k m small =
    let kind : kind_number (name k) ≡ 1 = omega arith in
    let low : low_bits (name k) ≡ k = omega arith in
    rw (kind, low) (descends_decided l.lines m k)

pub answered_by_uppermost : AnsweredByUppermost
answered_by_uppermost l question k =
    let test = uppermost l.kinds l.lines (set_of l question) in
    let right = uppermost_decided l.kinds l.lines (set_of l question) k in
    let kept = kept_stands test k l.kinds in (
      λ h. right.0 (and_parts (stands k l.kinds) (test k) (sym kept ∙ h)).1,
      λ u. kept ∙ and_from (stands k l.kinds) (test k) u.standing (right.1 u),
    )
