use Rattle.std.proofs.Common.{length}
use Rattle.finder.proofs.options.read_options.Given as goal

abbrev pub decreases-loop-arg : goal.decreases-loop-arg
decreases-loop-arg l = length l.args.rest.items
