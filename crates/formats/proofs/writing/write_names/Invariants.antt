use Rattle.std.proofs.Common.{◌≡◌, map}
use lib.Seq.{paste}
use Rattle.descent.specs.Lines.{serials_of}
use Rattle.words.specs.declared.word.WordKind.TheVariants.{Name}
use Rattle.words.specs.Words.{word_of}
use Rattle.formats.proofs.writing.write_names.Given as goal

-- the kinds passed are named
abbrev pub invariant-loop-i : goal.invariant-loop-i
invariant-loop-i l = l.names ≡ paste l.initial.names 0 (map (word_of Name) (serials_of l.standing.kinds.now)) l.i
