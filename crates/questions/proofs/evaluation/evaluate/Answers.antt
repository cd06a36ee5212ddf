use Rattle.std.proofs.Common.{◌≡◌, ◌≤◌, length, ◌∙◌, length-take-le, rules}
use Rattle.std.proofs.lemmas.Slice.{drop-append-drop}
use Rattle.questions.proofs.evaluation.evaluate.Goals as goal

pub returns-clause-beyond : goal.returns-clause-beyond
returns-clause-beyond g c =
    let n = c.in_ok-need.ensures in
    let enough : 32 ≤ length c.args.slots.now = search rules in
    let worked : length c.run.new.slots ≡ 32 = c.run.auto.slots ∙ length-take-le 32 c.args.slots.now enough in
    search (rules, drop-append-drop)
