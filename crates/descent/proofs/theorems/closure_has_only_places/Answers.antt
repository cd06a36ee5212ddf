use Rattle.descent.proofs.Closure.{closure_only_places}
use Rattle.descent.proofs.theorems.closure_has_only_places.Goals as goal

pub returns : goal.returns
returns c = closure_only_places
