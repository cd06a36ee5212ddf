use Rattle.promise.proofs.Promised.{promised}
use Rattle.promise.proofs.runs.compare.Goals as goal

pub returns : goal.returns
returns g c = promised _ _ c.in_ok-east.ensures c.in_ok-west.ensures
