use Rattle.descent.proofs.Coverage.{under_uppermost}
use Rattle.descent.proofs.theorems.covered_lies_under_uppermost.Goals as goal

pub returns : goal.returns
returns c = under_uppermost
