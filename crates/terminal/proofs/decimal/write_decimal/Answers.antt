use Rattle.std.proofs.Common.{arith}
use Rattle.terminal.proofs.Digits.{writes_decimal}
use Rattle.terminal.proofs.decimal.write_decimal.Goals as goal

pub returns-clause-digits : goal.returns-clause-digits
returns-clause-digits c = writes_decimal c.args.number (omega arith)
