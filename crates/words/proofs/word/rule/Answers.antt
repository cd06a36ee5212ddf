use Rattle.std.proofs.Common.{◌/◌, ◌<◌, rules}
use Rattle.std.proofs.lemmas.List.{get_or_default}
use Rattle.words.specs.Words as table
use Rattle.words.proofs.word.rule.Goals as goal

-- the table is the list of rules, read inside its sixteen rows
pub returns : goal.returns
returns c =
    let h : c.args.word / 268435456 < 16 = search rules in
    get_or_default table.rules (c.args.word / 268435456) _ table.unused h
