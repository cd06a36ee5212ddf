use Rattle.descent.proofs.Coverage.{uppermost_decided}
use Rattle.descent.proofs.theorems.uppermost_is_decided.Goals as goal

pub returns : goal.returns
returns c = uppermost_decided
