-- Which kinds answer a question, told by the rows at their places: what the decoding works out.
use Rattle.std.specs.Prelude.{ℕ, zero, suc, Bool, true, false, not, ◌&&◌, ◌||◌, List, [], ◌∷◌, map, filter, ◌==◌, nat_lt}
use Rattle.descent.specs.declared.kind.Kind.{Kind}
use Rattle.words.specs.declared.word.WordKind.TheVariants.{Name}
use Rattle.words.specs.Words.{word_of}
use Rattle.codes.specs.Sorts.{Sort}
use Rattle.closing.specs.Tables.{cell, sets_of}
use Rattle.descent.specs.Lines.{places_of}

-- the two sets share no place below w
abbrev pub apart : ℕ → (ℕ → Bool) → (ℕ → Bool) → Bool
apart zero f g = true
apart (suc w) f g = not (f w && g w) && apart w f g

-- nothing that descends from the kind at place q lies outside the question's set
abbrev pub covered_at : ℕ → List (ℕ → Bool) → (ℕ → Bool) → ℕ → Bool
covered_at w rows outside q = apart w (cell rows q) outside

-- some place of the list passes the test
abbrev pub some_place : (ℕ → Bool) → List ℕ → Bool
some_place test [] = false
some_place test (q ∷ qs) = test q || some_place test qs

-- the kind at place q is covered, and the kind at place p is another that descends from it
abbrev pub overlies : ℕ → List (ℕ → Bool) → (ℕ → Bool) → ℕ → ℕ → Bool
overlies w rows outside p q = covered_at w rows outside q && (cell rows q p && not (p == q))

-- the kind at place p lies below another covered kind of those at these places
abbrev pub below_covered : ℕ → List (ℕ → Bool) → (ℕ → Bool) → List ℕ → ℕ → Bool
below_covered w rows outside places p = some_place (overlies w rows outside p) places

-- the kind at place p is covered, and is not one of those below
abbrev pub chosen : ℕ → List (ℕ → Bool) → (ℕ → Bool) → (ℕ → Bool) → ℕ → Bool
chosen w rows outside below p = covered_at w rows outside p && not (nat_lt p w && below p)

-- the kind at place p is covered and lies below no other covered kind
abbrev pub uppermost_at : ℕ → List (ℕ → Bool) → (ℕ → Bool) → List ℕ → ℕ → Bool
uppermost_at w rows outside places p = chosen w rows outside (below_covered w rows outside places) p

-- the names of the kinds whose places pass the test
abbrev pub names_of : (ℕ → Bool) → List Kind → List ℕ
names_of test kinds = map (λ k. word_of Name k.serial) (filter (λ k. test k.place) kinds)

-- the names that a question's set of places decodes to
abbrev pub decoded : {S R : Type 0} → Sort S R → List Kind → List R → R → List ℕ
decoded sort kinds table set =
    names_of (uppermost_at sort.width (sets_of sort table) (λ p. not (sort.reads set p)) (places_of kinds)) kinds
