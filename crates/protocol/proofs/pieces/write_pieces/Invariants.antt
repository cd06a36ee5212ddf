use Rattle.std.proofs.Common.{◌≡◌, ◌++◌, take, vec_items}
use Rattle.std.specs.List.{flat_map}
use Rattle.protocol.specs.Pieces.{bytes_of}
use Rattle.protocol.proofs.pieces.write_pieces.Given as goal

abbrev pub invariant-loop-piece : goal.invariant-loop-piece
invariant-loop-piece l = vec_items l.out ≡ vec_items l.initial.out ++ flat_map bytes_of (take l.piece-index l.pieces)
