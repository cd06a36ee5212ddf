use Rattle.std.proofs.Common.{◌≡◌, ◌*◌}
use Rattle.std.specs.List.{flat_map}
use lib.Seq.{paste}
use Rattle.formats.specs.Formats.{line_words}
use Rattle.formats.proofs.writing.write_lines.Given as goal

-- the lines passed are written
abbrev pub invariant-loop-i : goal.invariant-loop-i
invariant-loop-i l = l.words ≡ paste l.initial.words 0 (flat_map line_words l.standing.lines.now) (2 * l.i)
