use Rattle.questions.proofs.Readings.{question_read}
use Rattle.questions.proofs.theorems.questions_read.Goals as goal

pub returns : goal.returns
returns c = question_read
