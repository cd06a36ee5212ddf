use Rattle.std.proofs.Common.{◌≡◌, take, vec_items}
use Rattle.words.specs.Files.{bytes_of}
use Rattle.words.proofs.files.encode.Given as goal

abbrev pub invariant-loop-word : goal.invariant-loop-word
invariant-loop-word l = vec_items l.bytes ≡ bytes_of (take l.word-index l.words)
