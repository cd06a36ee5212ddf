use Rattle.std.proofs.Common.{◌≡◌, ◌++◌, take, vec_items}
use Rattle.terminal.specs.Lists.{spaced}
use Rattle.terminal.proofs.lists.write_words.Given as goal

abbrev pub invariant-loop-word : goal.invariant-loop-word
invariant-loop-word l = vec_items l.out ≡ vec_items l.initial.out ++ spaced (take l.word-index l.words)
