-- When one kind descends from another, and a test for it.
use Rattle.std.specs.Prelude.{◌≡◌, ℕ, zero, suc, Bool, true, false, ◌&&◌, ◌||◌, ◌↔◌, List, [], ◌∷◌, length, ◌==◌}
use Rattle.descent.specs.declared.line.Line.{Line}
use Rattle.descent.specs.Lines.{has_line}

-- k descends from m: k is m, or standing lines lead from k up to m
pub data Descends (ls : List Line) : ℕ → ℕ → Type 0 where
  self : {k : ℕ} → Descends ls k k
  up : {k p m : ℕ} → has_line k p ls ≡ true → Descends ls p m → Descends ls k m

-- k leads up to m: by one standing line or more
pub data LeadsUp (ls : List Line) : ℕ → ℕ → Type 0 where
  one : {k m : ℕ} → has_line k m ls ≡ true → LeadsUp ls k m
  more : {k p m : ℕ} → has_line k p ls ≡ true → LeadsUp ls p m → LeadsUp ls k m

-- some line of the list leads from k to a parent that passes the test
abbrev pub some_parent : ℕ → (ℕ → Bool) → List Line → Bool
some_parent k test [] = false
some_parent k test (l ∷ ls) = (l.child == k && test l.parent) || some_parent k test ls

-- at most n lines, one after another, lead from k up to m
abbrev pub reaches : ℕ → List Line → ℕ → ℕ → Bool
reaches zero ls k m = k == m
reaches (suc n) ls k m = k == m || some_parent k (λ p. reaches n ls p m) ls

-- the test for descent: no more lines are needed than there are
abbrev pub descends : List Line → ℕ → ℕ → Bool
descends ls k m = reaches (length ls) ls k m

-- the test is passed exactly by the kinds that descend
abbrev pub DescendsDecided : Type 0
DescendsDecided = (ls : List Line) (k m : ℕ) → (descends ls k m ≡ true) ↔ Descends ls k m
