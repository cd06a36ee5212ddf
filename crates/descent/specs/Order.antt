-- Rising rows: the order in which kinds and lines are kept.
use Rattle.std.specs.Prelude.{ℕ, ◌+◌, ◌*◌, ◌^◌, Bool, true, cond, ◌&&◌, List, [], ◌∷◌, nat_lt}
use Rattle.descent.specs.declared.line.Line.{Line}

-- each number is above the one before, and the first above `last`
abbrev pub rising_from : ℕ → List ℕ → Bool
rising_from last [] = true
rising_from last (x ∷ xs) = nat_lt last x && rising_from x xs

-- lines are kept by rising child, then rising parent: by this number
abbrev pub line_key : Line → ℕ
line_key l = l.child * 2 ^ 32 + l.parent

-- x put in before the first that has a larger key
abbrev pub filed : {X : Type 0} → (X → ℕ) → X → List X → List X
filed key x [] = x ∷ []
filed key x (y ∷ ys) = cond (nat_lt (key x) (key y)) (x ∷ y ∷ ys) (y ∷ filed key x ys)
