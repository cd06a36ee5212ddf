use Rattle.std.proofs.Common.{ap, ap₂, ◌∙◌}
use Rattle.questions.proofs.Seen.{turned_two}
use Rattle.questions.proofs.step.combine.Goals as goal

pub returns : goal.returns
returns g c f does =
    let s = g.T.Truth.sort in
    turned_two s f c.args.stack.now c.taken.new.stack c.taken-2.new.stack c.put.new.stack _ _ _
    c.taken.ensures.after
    c.taken.ensures.slots
    c.taken-2.ensures.after
    c.taken-2.ensures.slots
    c.put.ensures.after
    c.put.ensures.slots
    (λ p h.
    ap (λ r. s.reads r p) c.write.ensures
    ∙ g.met.T.Truth.lawful.back _ p h
    ∙ does _ _ _ c.change.ensures p h
    ∙ ap₂ f (c.read-a.ensures.set p h) (c.read-b.ensures.set p h))
