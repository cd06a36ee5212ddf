use Rattle.descent.proofs.Descent.{descends_decided}
use Rattle.descent.proofs.theorems.descent_is_decided.Goals as goal

pub returns : goal.returns
returns c = descends_decided
