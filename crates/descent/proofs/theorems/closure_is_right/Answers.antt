use Rattle.descent.proofs.Closure.{closure_right}
use Rattle.descent.proofs.theorems.closure_is_right.Goals as goal

pub returns : goal.returns
returns c = closure_right
