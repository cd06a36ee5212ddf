use Rattle.std.proofs.Common.{◌≡◌, map, take}
use Rattle.descent.specs.Lines.{serials_of}
use Rattle.words.specs.declared.word.WordKind.TheVariants.{Name}
use Rattle.words.specs.Words.{word_of}
use Rattle.formats.specs.Formats.{serials_in, still_among}
use Rattle.formats.specs.Writing.{Writes}
use Rattle.formats.proofs.answers.write_standing.Given as goal

-- those of the names passed that stand are written
abbrev pub invariant-loop-word : goal.invariant-loop-word
invariant-loop-word l =
    Writes l.initial.kept l.kept (map (word_of Name) (still_among (serials_of l.standing.kinds.now) (serials_in (take l.word-index l.names.words.now))))
    × (l.kept.slots.ghost_name ≡ l.initial.kept.slots.ghost_name)
