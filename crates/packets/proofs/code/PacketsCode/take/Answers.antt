use Rattle.std.proofs.Common.{◌∙◌, arith}
use Rattle.std.proofs.lemmas.Bool.Decides.{nat_tests}
use Rattle.packets.proofs.code.PacketsCode.take.Goals as goal

pub returns : goal.returns
returns c = (c.in_ok-within_width.ensures.below, λ p h. c.unset_run.ensures p h ∙ grind (arith, nat_tests))
