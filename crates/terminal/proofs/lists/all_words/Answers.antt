use Rattle.std.proofs.Common.{is_some, refl, ◌∙◌, rules}
use Rattle.std.proofs.lemmas.Iterator.Consumers.{YieldsList-from_first}
use Rattle.std.proofs.lemmas.Iterator.Search.{all_from_yields_List}
use Rattle.terminal.specs.Fields.{fields_left}
use Rattle.terminal.specs.Numbers.{word_in}
use Rattle.terminal.proofs.Rows.{all_words_in}
use Rattle.terminal.proofs.lists.all_words.Goals as goal

pub returns : goal.returns
returns c =
    all_from_yields_List (λ field. is_some (word_in field)) c.all.new.self _ c.all.result c.all.ensures.ran (YieldsList-from_first (λ x. x.now) fields_left _ refl) (λ x b q k. search rules)
    ∙ all_words_in (fields_left c.args.fields)
