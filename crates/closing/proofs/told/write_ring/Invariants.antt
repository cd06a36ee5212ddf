use Rattle.std.proofs.Common.{◌≡◌, ◌+◌, ◌∷◌, ◌++◌, map, length, take, drop}
use Rattle.words.specs.Words.{word_of}
use Rattle.words.specs.declared.word.WordKind.TheVariants.{RingHead, Name}
use Rattle.closing.specs.Direct.{serial_at}
use Rattle.closing.proofs.told.write_ring.Given as goal

abbrev pub invariant-loop-i : goal.invariant-loop-i
invariant-loop-i l =
    l.ring
    ≡ (word_of RingHead (length l.places) ∷ map (λ p. word_of Name (serial_at l.standing.kinds.now p)) (take l.i l.places))
    ++ drop (l.i + 1) l.initial.ring
