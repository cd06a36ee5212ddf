-- The entries of a stack of rows, as seen at one place.
use Rattle.std.specs.Prelude.{◌≡◌, ℕ, ◌<◌, ◌≤◌, Bool, List, map, reverse, length, Some, None, Option, slice_index_or}
use Rattle.words.specs.declared.word.StackEffect.{StackEffect}
use Rattle.words.specs.Words.{kind_number, rule_of}
use Rattle.codes.specs.Sorts.{Sort, Agree}
use Rattle.stack.specs.declared.lent.Stack.{Stack}
use Rattle.stack.specs.Held.{held, SameSlots}
use Rattle.questions.specs.Questions.{applied_word, depth_after, depth_by, most_entries}

-- whether a place is in each entry, the top first
abbrev pub seen : {S R : Type 0} → Sort S R → ℕ → Stack R → List Bool
seen sort p stack = map (λ row. sort.reads row p) (reverse (held stack))

-- from old to new, each place sees its entries changed so, and so many are left
pub record Turned {S R : Type 0} (sort : Sort S R) (change : ℕ → List Bool → List Bool) (depth : ℕ) (old new : Stack R) : Type 0 where
  pub entries : (p : ℕ) → p < sort.width → seen sort p new ≡ change p (seen sort p old)
  pub deep : length (held new) ≡ depth
  pub slots : SameSlots old new

-- a word with this effect finds what it takes, and room for what it leaves
abbrev pub Fitting : ℕ → Option StackEffect → Type 0
Fitting d None = ⊥
Fitting d (Some e) = (e.takes ≤ d) × (depth_by d e ≤ most_entries)

-- a word is carried out: named has the places of each name's value, whole those of all
abbrev pub Stepped : {S R : Type 0} → Sort S R → (ℕ → ℕ → Bool) → (ℕ → Bool) → ℕ → Stack R → Stack R → Type 0
Stepped sort named whole w old new =
    Turned sort
    (λ p. applied_word (λ k. named k p) (whole p) w)
    (depth_after (length (held old)) (rule_of (kind_number w)).effect)
    old
    new

-- the first row is read as this set
abbrev pub FirstReads : {S R : Type 0} → Sort S R → (ℕ → Bool) → List R → Type 0
FirstReads {S} {R} sort set rows = (d : R) → Agree sort.width (sort.reads (slice_index_or rows 0 d)) set
