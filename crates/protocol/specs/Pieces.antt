-- The bytes that a piece of a line has.
use Rattle.std.specs.Prelude.{ℕ, List, decimal}
use Rattle.terminal.specs.Lists.{spaced}
use Rattle.protocol.specs.declared.pieces.Piece.{Piece}
use Rattle.protocol.specs.declared.pieces.Piece.TheVariants.{Text, Number, Words}

abbrev pub bytes_of : Piece → List ℕ
bytes_of (Text text) = text.now
bytes_of (Number n) = decimal n
bytes_of (Words words) = spaced words.now
