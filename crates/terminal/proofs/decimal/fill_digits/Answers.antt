use Rattle.std.proofs.Common.{◌≡◌, ◌+◌, ◌-◌, ◌/◌, ◌%◌, ◌≤◌, ◌++◌, length, drop, set, decimal, ◌∙◌, arith}
use Rattle.std.proofs.lemmas.List.{length-set}
use Rattle.terminal.proofs.Digits.{room, digit_more, digit_last}
use Rattle.terminal.proofs.decimal.fill_digits.Goals as goal

pub loop-left-preserved : goal.loop-left-preserved
loop-left-preserved c =
    let at = c.loop-left.at - 1 in
    let left = c.loop-left.left / 10 in
    let digits = set c.loop-left.digits (c.loop-left.at - 1) (48 + c.loop-left.left % 10) in
    let stand : decimal left ++ drop at digits ≡ decimal c.args.number =
    digit_more c.loop-left.left c.loop-left.at c.loop-left.digits c.loop-left-test.true (omega arith) c.loop-left.invariant.0 (omega arith) ∙ c.loop-left.invariant.3
    in
    let within : at ≤ 20 = omega arith in
    let less : left ≤ c.args.number = omega arith in
    let len : length digits ≡ 20 = simp length-set (omega arith) in
    (room c.args.number left at digits (omega arith) less len within stand, within, less, stand)

pub returns-clause-digits : goal.returns-clause-digits
returns-clause-digits c =
    digit_last c.loop-left.left c.loop-left.at c.loop-left.digits c.loop-left-test.false c.loop-left.invariant.0 (omega arith) ∙ c.loop-left.invariant.3
