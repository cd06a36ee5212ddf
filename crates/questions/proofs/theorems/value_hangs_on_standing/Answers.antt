use Rattle.questions.proofs.Values.{holds_agrees}
use Rattle.questions.proofs.theorems.value_hangs_on_standing.Goals as goal

pub returns : goal.returns
returns c = holds_agrees
