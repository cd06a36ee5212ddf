use Rattle.std.proofs.Common.{◌≡◌, ◌+◌, ◌*◌, ◌≤◌, length, sym, refl, ◌∙◌, rules, arith}
use Rattle.std.proofs.lemmas.List.{take_rest}
use Rattle.words.specs.Refusals.{image_told}
use Rattle.formats.specs.Formats.{serials_in}
use Rattle.formats.proofs.ImageChecks.{lines_wrong, lines_right}
use Rattle.formats.proofs.Telling.{says_err}
use Rattle.formats.proofs.checking.check_lines.Goals as goal

pub returns-in_err-push : goal.returns-in_err-push
returns-in_err-push c =
    let l = c.loop-left in
    let two : 2 ≤ length l.left.now = search rules in
    says_err image_told c.from_residual.result _ c.from_residual.ensures.1
    (λ f is. l.invariant ∙ lines_wrong (serials_in l.lines.names.words.now) l.lines.count l.lines.last _ l.left.now two (sym c.if-is_kind.ensures) _ (rw is c.in_err-push.ensures.says))

pub loop-left-preserved : goal.loop-left-preserved
loop-left-preserved c =
    let l = c.loop-left in
    let two : 2 ≤ length l.left.now = search rules in
    let push = c.in_ok-push.ensures in
    let at = length l.lines.names.words.now + 1 + 2 * l.lines.count in
    let next : length l.lines.names.words.now + 1 + 2 * (l.lines.count + 1) ≡ at + 2 = omega arith in
    l.invariant ∙ lines_right (serials_in l.lines.names.words.now) l.lines.count l.lines.last at l.left.now two (sym c.if-is_kind.ensures) push.says
    ∙ rw (push.names, push.moved.0, push.moved.1, take_rest l.left.now 2, next) refl
