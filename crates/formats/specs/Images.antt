-- What an image keeps of the kinds and lines that it is written from.
use Rattle.std.specs.Prelude.{◌≡◌, ℕ, List, None}
use Rattle.descent.specs.declared.line.Line.{Line}
use Rattle.descent.specs.Proper.{CanHold}
use Rattle.formats.specs.Formats.{image_of, image_refusal, kinds_in, lines_in}

-- the image of these kinds and lines is accepted by an empty catalogue of w places, and reads back as the same
pub record ReadsBack (w : ℕ) (kinds : List ℕ) (lines : List Line) : Type 0 where
  pub accepted : image_refusal w (image_of kinds lines) ≡ None
  pub same_kinds : kinds_in (image_of kinds lines) ≡ kinds
  pub same_lines : lines_in (image_of kinds lines) ≡ lines

-- no other kinds and lines that a catalogue can hold have the same image
abbrev pub TellsApart : List ℕ → List Line → Type 0
TellsApart kinds lines =
    (w : ℕ) (kinds' : List ℕ) (lines' : List Line) →
    CanHold w kinds' lines' →
    image_of kinds' lines' ≡ image_of kinds lines →
    (kinds' ≡ kinds) × (lines' ≡ lines)
