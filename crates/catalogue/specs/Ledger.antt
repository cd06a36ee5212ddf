-- The ledger: what stands and whether a catalogue is open or closed, told by the calls and what they are handed.
use Rattle.std.specs.Prelude.{ℕ, ◌+◌, Bool, true, false, not, ◌&&◌, List, [], ◌∷◌, length, Some, None, filter, Option, ◌==◌, nat_le, nat_lt}
use Rattle.descent.specs.declared.line.Line.{Line}
use Rattle.descent.specs.Lines.{stands, has_line, mentioned}
use Rattle.descent.specs.Descent.{descends}
use Rattle.descent.specs.Rings.{ringed}
use Rattle.descent.specs.Coverage.{uppermost}
use Rattle.questions.specs.Questions.{count_refusal, question_refusal, value_of}
use Rattle.words.specs.declared.refusal.Refusal.{Refusal}
use Rattle.words.specs.declared.refusal.Part.TheVariants as part
use Rattle.words.specs.Refusals.{refusal, refuse_if, first_of, list_refusal, serial_refusal}
use Rattle.descent.specs.Order.{line_key, filed}
use Rattle.formats.specs.Formats.{image_length, image_refusal, kinds_in, lines_in, answer_refusal, named_in}

pub record Ledger : Type 0 where
  -- how many places there are
  pub wide : ℕ
  -- the serials of the standing kinds, rising
  pub kinds : List ℕ
  -- the standing lines, by rising child, then rising parent
  pub lines : List Line
  pub closed : Bool

-- a new catalogue
abbrev pub blank : ℕ → Ledger
blank w = record { wide = w; kinds = []; lines = []; closed = false }

-- a call with all that is handed in; of a list that is written to, its length
pub data Call : Type 0 where
  enter : ℕ → Call
  withdraw : ℕ → Call
  enter_line : ℕ → ℕ → Call
  withdraw_line : ℕ → ℕ → Call
  read_image : List ℕ → Call
  write_image : ℕ → Call
  recall : List ℕ → ℕ → Call
  -- the lengths of the code table, the marks, the walk list and the ring list
  close : ℕ → ℕ → ℕ → ℕ → Call
  -- the question, and the lengths of the code table, the working values and the answer list
  ask : List ℕ → ℕ → ℕ → ℕ → Call
  -- the kind, the question, and the lengths of the code table and the working values
  fit : ℕ → List ℕ → ℕ → ℕ → Call

-- a kind that is handed in has to stand
abbrev pub kind_refusal : Ledger → ℕ → Option Refusal
kind_refusal l x = first_of (serial_refusal x 0 ∷ refuse_if (not (stands x l.kinds)) (refusal 5 0 part.Kind) ∷ [])

-- the ends of a line that is handed in: the child's faults come before the parent's
abbrev pub ends_refusal : Ledger → ℕ → ℕ → Option Refusal
ends_refusal l c p = first_of (kind_refusal l c ∷ kind_refusal l p ∷ refuse_if (c == p) (refusal 7 0 part.Line) ∷ [])

-- why a call is refused, if it is
abbrev pub refused : Ledger → Call → Option Refusal
refused l (enter x) =
    first_of (serial_refusal x 0
    ∷ refuse_if (stands x l.kinds) (refusal 3 0 part.Kind)
    ∷ refuse_if (nat_le l.wide (length l.kinds)) (refusal 4 0 part.Kind)
    ∷ [])
refused l (withdraw x) =
    first_of (kind_refusal l x ∷ refuse_if (mentioned x l.lines) (refusal 6 0 part.Kind) ∷ [])
refused l (enter_line c p) =
    first_of (ends_refusal l c p
    ∷ refuse_if (has_line c p l.lines) (refusal 8 0 part.Line)
    ∷ refuse_if (nat_le 2048 (length l.lines)) (refusal 9 0 part.Line)
    ∷ [])
refused l (withdraw_line c p) = first_of (ends_refusal l c p ∷ refuse_if (not (has_line c p l.lines)) (refusal 10 0 part.Line) ∷ [])
refused l (read_image ws) =
    first_of (refuse_if (nat_lt 0 (length l.kinds)) (refusal 18 0 part.Image) ∷ image_refusal l.wide ws ∷ [])
refused l (write_image room) = list_refusal room (image_length l.kinds l.lines)
refused l (recall ws room) = first_of (list_refusal room (l.wide + 1) ∷ answer_refusal ws ∷ [])
refused l (close table marks walk ring) =
    first_of (list_refusal table l.wide
    ∷ list_refusal marks l.wide
    ∷ list_refusal walk l.wide
    ∷ list_refusal ring (l.wide + 1)
    ∷ refuse_if (ringed l.lines) (refusal 11 0 part.Closing)
    ∷ [])
refused l (ask ws table working answer) =
    first_of (list_refusal table l.wide
    ∷ list_refusal answer (l.wide + 1)
    ∷ list_refusal working 32
    ∷ refuse_if (not l.closed) (refusal 12 0 part.Question)
    ∷ count_refusal ws
    ∷ question_refusal (λ k. stands k l.kinds) ws
    ∷ [])
refused l (fit x ws table working) =
    first_of (list_refusal table l.wide
    ∷ list_refusal working 32
    ∷ refuse_if (not l.closed) (refusal 12 0 part.Question)
    ∷ count_refusal ws
    ∷ kind_refusal l x
    ∷ question_refusal (λ k. stands k l.kinds) ws
    ∷ [])

-- the same width, with these kinds and lines standing, and open
abbrev pub opened : Ledger → List ℕ → List Line → Ledger
opened l ks ls = record { wide = l.wide; kinds = ks; lines = ls; closed = false }

-- what an accepted call leaves
abbrev pub accepted : Ledger → Call → Ledger
accepted l (enter x) = opened l (filed (λ k. k) x l.kinds) l.lines
accepted l (withdraw x) = opened l (filter (λ k. not (k == x)) l.kinds) l.lines
accepted l (enter_line c p) = opened l l.kinds (filed line_key (record { child = c; parent = p }) l.lines)
accepted l (withdraw_line c p) = opened l l.kinds (filter (λ m. not (m.child == c && m.parent == p)) l.lines)
accepted l (read_image ws) = opened l (kinds_in ws) (lines_in ws)
accepted l (write_image room) = l
accepted l (recall ws room) = l
accepted l (close table marks walk ring) = record { wide = l.wide; kinds = l.kinds; lines = l.lines; closed = true }
accepted l (ask ws table working answer) = l
accepted l (fit x ws table working) = l

-- a refused call leaves the ledger as it was
abbrev pub unless : Option Refusal → Ledger → Ledger → Ledger
unless None new old = new
unless (Some r) new old = old

abbrev pub after : Ledger → Call → Ledger
after l call = unless (refused l call) (accepted l call) l

-- of the kinds that an answer names, those that stand
abbrev pub still_standing : Ledger → List ℕ → List ℕ
still_standing l answer = filter (λ k. stands k l.kinds) (named_in answer)

-- the set of a question: a name means the kinds that descend from it, all the standing kinds
abbrev pub set_of : Ledger → List ℕ → ℕ → Bool
set_of l words kind = value_of (λ k m. descends l.lines m k) (λ m. stands m l.kinds) words kind

-- the kinds that answer a question: the uppermost of those whose whole descent the question covers
abbrev pub answering : Ledger → List ℕ → List ℕ
answering l words = filter (uppermost l.kinds l.lines (set_of l words)) l.kinds
