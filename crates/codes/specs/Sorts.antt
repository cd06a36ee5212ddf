-- A sort of code as a specification sees it.
use Rattle.std.specs.Prelude.{◌≡◌, ℕ, ◌<◌, ◌≤◌, Bool, true, false, Some, None, Ok, Err, Option, Result}
use Rattle.words.specs.declared.refusal.CodeFault.{CodeFault}

-- the two sets have the same places below w
abbrev pub Agree : ℕ → (ℕ → Bool) → (ℕ → Bool) → Type 0
Agree w f g = (p : ℕ) → p < w → f p ≡ g p

-- values S that lie in lists as rows R
pub record Sort (S R : Type 0) : Type 0 where
  -- how many places there are
  pub width : ℕ
  -- the places that a value has
  pub means : S → ℕ → Bool
  -- the row that a value is written as
  pub written : S → R
  -- whether a row keeps the sort's rule
  pub keeps : R → Bool
  -- the places that a row is read as
  pub reads : R → ℕ → Bool

pub record Lawful {S R : Type 0} (s : Sort S R) : Type 0 where
  pub at_least_one : 1 ≤ s.width
  pub few_places : s.width ≤ 512
  -- a value's row keeps the rule, and is read as the value's places
  pub kept : (v : S) → s.keeps (s.written v) ≡ true
  pub back : (v : S) → Agree s.width (s.reads (s.written v)) (s.means v)
  -- a row that breaks the rule is read as the empty set
  pub broken : (r : R) → s.keeps r ≡ false → Agree s.width (s.reads r) (λ _. false)

-- a place below the width is put in or taken out, to leave this set; another is refused, and alters nothing
abbrev pub Changed : {S R : Type 0} → Sort S R → S → S → ℕ → (ℕ → Bool) → Result (Unit {0}) CodeFault → Type 0
Changed s old new place set (Ok _) = (place < s.width) × Agree s.width (s.means new) set
Changed s old new place set (Err _) = (s.width ≤ place) × (new ≡ old)

-- the least place of a set from a given one up, if there is one below w
abbrev pub Next : ℕ → (ℕ → Bool) → ℕ → Option ℕ → Type 0
Next w set from None = (p : ℕ) → from ≤ p → p < w → set p ≡ false
Next w set from (Some q) = (from ≤ q) × (q < w) × (set q ≡ true) × ((p : ℕ) → from ≤ p → p < q → set p ≡ false)
