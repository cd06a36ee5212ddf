use Rattle.std.proofs.Common.{◌≡◌, length, vec_items}
use Rattle.terminal.specs.Fields.{rest, fields_left}
use Rattle.terminal.specs.Lists.{words_in}
use Rattle.terminal.proofs.Rows.{behind}
use Rattle.terminal.proofs.lists.parse_words.Given as goal

abbrev pub invariant-loop-field : goal.invariant-loop-field
invariant-loop-field l = behind (vec_items l.words) (words_in (fields_left l.fields)) ≡ words_in (fields_left l.initial.fields)

abbrev pub decreases-loop-field : goal.decreases-loop-field
decreases-loop-field l = length (rest l.fields)
