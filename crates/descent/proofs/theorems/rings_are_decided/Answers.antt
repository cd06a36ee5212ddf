use Rattle.descent.proofs.Rings.{ringed_decided}
use Rattle.descent.proofs.theorems.rings_are_decided.Goals as goal

pub returns : goal.returns
returns c = ringed_decided
