-- What a closing answers, and what it leaves in the lists that it was lent.
use Rattle.std.specs.Prelude.{◌≡◌, ℕ, ◌+◌, List, [], ◌∷◌, ◌++◌, map, length, drop, replicate, Ok, Err, Option, Result}
use Rattle.words.specs.declared.word.WordKind.TheVariants.{RingHead, Name}
use Rattle.words.specs.declared.refusal.Refusal.{Refusal}
use Rattle.words.specs.declared.refusal.Part.TheVariants as part
use Rattle.words.specs.declared.refusal.ClosingFault.{ClosingFault}
use Rattle.words.specs.declared.refusal.ClosingFault.TheVariants as fault
use Rattle.words.specs.Words.{word_of}
use Rattle.words.specs.Refusals.{refusal, first_of, refuse_if, list_refusal}
use Rattle.codes.specs.Sorts.{Sort}
use Rattle.descent.specs.declared.line.Line.{Line}
use Rattle.descent.specs.Rings.{Ring, ringed}
use Rattle.closing.specs.Tables.{sets_of, Empty, Filled}

-- the lists lent to a closing
pub record Lent (R : Type 0) : Type 0 where
  pub table : List R
  pub marks : List ℕ
  pub walk : List ℕ
  pub ring : List ℕ

abbrev pub lent : {R : Type 0} → List R → List ℕ → List ℕ → List ℕ → Lent R
lent table marks walk ring = record { table = table; marks = marks; walk = walk; ring = ring }

-- a row with too few places, or a list that is too short
abbrev pub lent_refusal : {R : Type 0} → ℕ → ℕ → Lent R → Option Refusal
lent_refusal w places l =
    first_of (list_refusal places w ∷ list_refusal (length l.table) w ∷ list_refusal (length l.marks) w ∷ list_refusal (length l.walk) w ∷ list_refusal (length l.ring) (w + 1) ∷ [])

-- why a closing is refused: the lists, or a ring among the lines
abbrev pub closing_refusal : {R : Type 0} → ℕ → ℕ → List Line → Lent R → Option Refusal
closing_refusal w places ls l = first_of (lent_refusal w places l ∷ refuse_if (ringed ls) (refusal 11 0 part.Closing) ∷ [])

-- the first w marks are zero; beyond the first w, rows, marks and the walk are as they were
pub record Kept {R : Type 0} (w : ℕ) (old new : Lent R) : Type 0 where
  pub rows : drop w new.table ≡ drop w old.table
  pub zeros : new.marks ≡ replicate w 0 ++ drop w old.marks
  pub steps : drop w new.walk ≡ drop w old.walk

-- an accepted closing: the table is filled, and the ring list is as it was
pub record Closed {S R : Type 0} (sort : Sort S R) (w : ℕ) (serials places : List ℕ) (ls : List Line) (old new : Lent R) : Type 0 where
  pub kept : Kept w old new
  pub filled : Filled w serials places ls (sets_of sort new.table)
  pub untold : new.ring ≡ old.ring

-- a ring as words: a head with the number of kinds, then their names in order; later words are as they were
pub record Told (ls : List Line) (old new : List ℕ) : Type 0 where
  pub kinds : List ℕ
  pub ring : Ring ls kinds
  pub words : new ≡ (word_of RingHead (length kinds) ∷ map (word_of Name) kinds) ++ drop (length kinds + 1) old

-- a closing refused for a ring: every row is empty, and the ring list tells a ring
pub record Ringed {S R : Type 0} (sort : Sort S R) (w : ℕ) (ls : List Line) (old new : Lent R) : Type 0 where
  pub kept : Kept w old new
  pub empty : Empty w (sets_of sort new.table)
  pub told : Told ls old.ring new.ring

-- what a closing leaves, by its answer; where a list is too short it leaves everything as it was
abbrev pub Closes : {S R : Type 0} → Sort S R → ℕ → List ℕ → List ℕ → List Line → Lent R → Lent R → Result (Unit {0}) ClosingFault → Type 0
Closes sort w serials places ls old new (Ok _) = Closed sort w serials places ls old new
Closes sort w serials places ls old new (Err (fault.List _)) = new ≡ old
Closes sort w serials places ls old new (Err fault.Ring) = Ringed sort w ls old new
