-- What asking and fitting tell.
use Rattle.std.specs.Prelude.{◌≡◌, ℕ, ◌+◌, ◌<◌, ◌≤◌, Bool, false, not, List, [], ◌∷◌, length, drop, Ok, Err, Option, Result, slice_index}
use Rattle.descent.specs.Lines.{stands}
use Rattle.words.specs.declared.refusal.Refusal.{Refusal}
use Rattle.words.specs.declared.refusal.Part.TheVariants as part
use Rattle.words.specs.Refusals.{refusal, refuse_if, first_of, list_refusal}
use Rattle.catalogue.specs.Ledger.{Ledger, set_of}
use Rattle.catalogue.specs.View.{View}

-- the lists that asking is handed, and an open catalogue, in the order in which they are checked
abbrev pub ask_refusal : Ledger → ℕ → ℕ → ℕ → Option Refusal
ask_refusal l table answer working =
    first_of (list_refusal table l.wide
    ∷ list_refusal answer (l.wide + 1)
    ∷ list_refusal working 32
    ∷ refuse_if (not l.closed) (refusal 12 0 part.Question)
    ∷ [])

-- the lists that fitting is handed, and an open catalogue
abbrev pub fit_refusal : Ledger → ℕ → ℕ → Option Refusal
fit_refusal l table working =
    first_of (list_refusal table l.wide
    ∷ list_refusal working 32
    ∷ refuse_if (not l.closed) (refusal 12 0 part.Question)
    ∷ [])

-- a set of places is the question's set: a kind's place is in it as the kind is in the question's set, and no other place is
pub record AsPlaces (v : View) (words : List ℕ) (set : ℕ → Bool) : Type 0 where
  pub kinds : (a : ℕ) → a < length v.book.kinds →
      set (slice_index v.places a) ≡ set_of v.book words (slice_index v.book.kinds a)
  pub others : (p : ℕ) → p < v.book.wide → stands p v.places ≡ false → set p ≡ false

-- the words past those written stay, and a refusal leaves the list as it was
abbrev pub Kept : {F : Type 0} → List ℕ → List ℕ → Result ℕ F → Type 0
Kept old new (Ok n) = (n ≤ length new) × (drop n new ≡ drop n old)
Kept old new (Err f) = new ≡ old
