use Rattle.std.proofs.Common.{◌<◌, length, sym, ◌∙◌, rules}
use Rattle.std.proofs.lemmas.List.{take_rest}
use Rattle.words.specs.Refusals.{image_told}
use Rattle.formats.specs.Formats.{not_due}
use Rattle.formats.proofs.ImageChecks.{image_lines}
use Rattle.formats.proofs.Telling.{says_err}
use Rattle.formats.proofs.checking.check_image.Goals as goal

pub returns-in_err-check_lines-clause-says : goal.returns-in_err-check_lines-clause-says
returns-in_err-check_lines-clause-says c =
    let ws = c.args.words.now in
    let some : 0 < length ws = search rules in
    let parts = c.in_ok-names.ensures in
    says_err image_told _ _ c.from_residual-in_err-check_lines.ensures.1
    (λ f is. image_lines c.args.width c.low_bits-count.result ws _ _ _ some (sym c.if-is_kind.ensures) c.low_bits-count.ensures c.if-count-width.false (take_rest ws 1)
    (parts.says not_due) parts.names parts.count parts.rest ∙ rw is c.in_err-check_lines.ensures)

pub returns-clause-says : goal.returns-clause-says
returns-clause-says c =
    let ws = c.args.words.now in
    let some : 0 < length ws = search rules in
    let parts = c.in_ok-names.ensures in
    image_lines c.args.width c.low_bits-count.result ws _ _ _ some (sym c.if-is_kind.ensures) c.low_bits-count.ensures c.if-count-width.false (take_rest ws 1)
    (parts.says not_due) parts.names parts.count parts.rest ∙ c.in_ok-check_lines.ensures
