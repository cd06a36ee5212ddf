use Rattle.std.proofs.Common.{not, ◌&&◌}
use Rattle.questions.proofs.Seen.{turned_top}
use Rattle.questions.proofs.step.lack_top.Goals as goal

pub returns : goal.returns
returns g c =
    turned_top g.T.Truth.sort (λ p a. g.T.Truth.sort.reads c.args.all p && not a) c.args.stack.now c.taken-a.new.stack c.put.new.stack _ _
    c.taken-a.ensures.after
    c.taken-a.ensures.slots
    c.put.ensures.after
    c.put.ensures.slots
    c.lacked.ensures
