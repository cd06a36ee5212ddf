use Rattle.std.proofs.Common.{◌≡◌, ◌+◌, ◌*◌, length}
use Rattle.formats.specs.Formats.{serials_in, lines_refusal}
use Rattle.formats.proofs.checking.check_lines.Given as goal

-- the lines passed are right, so that what is wrong lies in the rest
abbrev pub invariant-loop-left : goal.invariant-loop-left
invariant-loop-left l =
    lines_refusal (serials_in l.names.words.now) 0 0 (length l.names.words.now + 1) l.words
    ≡ lines_refusal (serials_in l.lines.names.words.now) l.lines.count l.lines.last (length l.lines.names.words.now + 1 + 2 * l.lines.count) l.left

abbrev pub decreases-loop-left : goal.decreases-loop-left
decreases-loop-left l = length l.left
