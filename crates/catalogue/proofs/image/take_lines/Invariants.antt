use Rattle.std.proofs.Common.{◌≡◌, ◌++◌, length, vec_items, vec_capacity}
use Rattle.formats.specs.Formats.{pairs_in}
use Rattle.catalogue.proofs.image.take_lines.Given as goal

-- the lines so far, and then those of the words that are left
abbrev pub invariant-loop-left : goal.invariant-loop-left
invariant-loop-left l =
    record {
      entries : vec_items l.lines.entries ++ pairs_in l.left ≡ pairs_in l.words;
      most : l.lines.most ≡ l.initial.lines.most;
      capacity : vec_capacity l.lines.entries ≡ vec_capacity l.initial.lines.entries;
    }

abbrev pub decreases-loop-left : goal.decreases-loop-left
decreases-loop-left l = length l.left
