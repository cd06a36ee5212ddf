use Rattle.std.proofs.Common.{◌≡◌, ◌*◌, take, vec_items}
use Rattle.words.specs.Files.{bytes_of}
use Rattle.words.proofs.files.decode.Given as goal

abbrev pub invariant-loop-chunk : goal.invariant-loop-chunk
invariant-loop-chunk l = bytes_of (vec_items l.words) ≡ take (l.chunk-index * 4) l.bytes
