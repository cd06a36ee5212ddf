use Rattle.clutch.proofs.Worked.{worked}
use Rattle.clutch.proofs.worked_cases.Goals as goal

pub returns : goal.returns
returns c = worked
