use Rattle.std.proofs.Common.{◌≡◌, ℕ, ◌+◌, ◌-◌, drop, ap, ◌∙◌, arith}
use Rattle.words.specs.Refusals.{names_told}
use Rattle.formats.specs.Formats.{not_due, names_refusal}
use Rattle.formats.proofs.NameRuns.{names_passed}
use Rattle.formats.proofs.NameRuns.{names_missing, names_wrong, names_right}
use Rattle.formats.proofs.Telling.{says_err}
use Rattle.formats.proofs.names.check_names.Goals as goal

pub returns-in_default-clause-says : goal.returns-in_default-clause-says
returns-in_default-clause-says c = λ due.
    let l = c.loop-i in
    l.invariant due ∙ names_missing due c.args.words.now c.args.count l.last l.i c.loop-i-test.true c.in_default.ensures.lookup.3

pub returns-in_err-last-clause-says : goal.returns-in_err-last-clause-says
returns-in_err-last-clause-says c = λ due.
    let l = c.loop-i in
    let found = c.in-Some.ensures.lookup.3 in
    says_err (names_told due) c.from_residual.result _ c.from_residual.ensures.1
    (λ f is. l.invariant due ∙ names_wrong due c.args.words.now c.args.count l.last l.i c.loop-i-test.true found.0 _ (rw (is, ← found.1 0) (c.in_err-last.ensures.says due)))

pub loop-i-preserved : goal.loop-i-preserved
loop-i-preserved c = λ due.
    let l = c.loop-i in
    let found = c.in-Some.ensures.lookup.3 in
    let says = c.in_ok-last.ensures.says due in
    l.invariant due ∙ names_right due c.args.words.now c.args.count l.last l.i c.loop-i-test.true found.0 c.in_ok-last.last (rw (← found.1 0) says) (rw (← found.1 0) c.in_ok-last.ensures.serial)

pub split_at-requires : goal.split_at-requires
split_at-requires c =
    let done : c.args.count - c.loop-i.i ≡ 0 = omega (arith, c.loop-i-test.false) in
    (names_passed not_due c.args.count 0 1 c.args.words.now (c.loop-i.invariant not_due ∙ ap (λ (n : ℕ). names_refusal not_due n c.loop-i.last (c.loop-i.i + 1) (drop c.loop-i.i c.args.words.now)) done)).0

pub invariant_of-result : goal.invariant_of-result
invariant_of-result c =
    let done : c.args.count - c.loop-i.i ≡ 0 = omega (arith, c.loop-i-test.false) in
    let passed = c.loop-i.invariant not_due ∙ ap (λ (n : ℕ). names_refusal not_due n c.loop-i.last (c.loop-i.i + 1) (drop c.loop-i.i c.args.words.now)) done in
    record {
      rising = rw c.split_at.ensures.front (names_passed not_due c.args.count 0 1 c.args.words.now passed).1;
      few = omega (arith, c.split_at.ensures.front_len, c.ranges.count.fits);
    }
