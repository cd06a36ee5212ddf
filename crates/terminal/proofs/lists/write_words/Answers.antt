use Rattle.std.proofs.Common.{arith}
use Rattle.terminal.proofs.Rows.{reads_back}
use Rattle.terminal.proofs.lists.write_words.Goals as goal

pub returns-in-Err-clause-back : goal.returns-in-Err-clause-back
returns-in-Err-clause-back c = reads_back c.args.words.now (λ i. omega (arith, c.type_inv.words i))

pub returns-clause-back : goal.returns-clause-back
returns-clause-back c = reads_back c.args.words.now (λ i. omega (arith, c.type_inv.words i))
