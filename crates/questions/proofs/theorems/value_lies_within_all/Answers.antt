use Rattle.questions.proofs.Values.{holds_within}
use Rattle.questions.proofs.theorems.value_lies_within_all.Goals as goal

pub returns : goal.returns
returns c = holds_within
