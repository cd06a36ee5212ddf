use Rattle.descent.proofs.Coverage.{covered_decided}
use Rattle.descent.proofs.theorems.covered_is_decided.Goals as goal

pub returns : goal.returns
returns c = covered_decided
