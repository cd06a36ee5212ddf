use Rattle.descent.proofs.Rings.{ring_found}
use Rattle.descent.proofs.theorems.ring_is_found.Goals as goal

pub returns : goal.returns
returns c = ring_found
