-- Which standing kinds a set of kinds covers, and the uppermost of them.
use Rattle.std.specs.Prelude.{◌≡◌, ℕ, Bool, true, false, not, ◌&&◌, ◌||◌, ◌↔◌, List, [], ◌∷◌, ◌==◌}
use Rattle.descent.specs.declared.line.Line.{Line}
use Rattle.descent.specs.Lines.{stands}
use Rattle.descent.specs.Descent.{Descends, descends}
use Rattle.descent.specs.Rings.{ringed}

-- the set has every standing kind that descends from k
abbrev pub Covered : List ℕ → List Line → (ℕ → Bool) → ℕ → Type 0
Covered kinds ls set k = (d : ℕ) → stands d kinds ≡ true → Descends ls d k → set d ≡ true

-- u stands and is covered, and descends from no other standing kind that is covered
pub record Uppermost (kinds : List ℕ) (ls : List Line) (set : ℕ → Bool) (u : ℕ) : Type 0 where
  pub standing : stands u kinds ≡ true
  pub inside : Covered kinds ls set u
  pub highest : (m : ℕ) → stands m kinds ≡ true → Covered kinds ls set m → Descends ls u m → m ≡ u

-- every kind of the list passes the test
abbrev pub each_kind : (ℕ → Bool) → List ℕ → Bool
each_kind test [] = true
each_kind test (k ∷ ks) = test k && each_kind test ks

-- the test for covered kinds
abbrev pub covered : List ℕ → List Line → (ℕ → Bool) → ℕ → Bool
covered kinds ls set k = each_kind (λ d. not (descends ls d k) || set d) kinds

-- the test for uppermost kinds
abbrev pub uppermost : List ℕ → List Line → (ℕ → Bool) → ℕ → Bool
uppermost kinds ls set u =
    (stands u kinds && covered kinds ls set u)
    && each_kind (λ m. not (covered kinds ls set m && descends ls u m) || m == u) kinds

-- the test is passed exactly by the covered kinds
abbrev pub CoveredDecided : Type 0
CoveredDecided =
    (kinds : List ℕ) (ls : List Line) (set : ℕ → Bool) (k : ℕ) →
    (covered kinds ls set k ≡ true) ↔ Covered kinds ls set k

-- the test is passed exactly by the uppermost kinds
abbrev pub UppermostDecided : Type 0
UppermostDecided =
    (kinds : List ℕ) (ls : List Line) (set : ℕ → Bool) (u : ℕ) →
    (uppermost kinds ls set u ≡ true) ↔ Uppermost kinds ls set u

-- where there is no ring, every standing kind that is covered descends from an uppermost one
abbrev pub UnderUppermost : Type 0
UnderUppermost =
    (kinds : List ℕ) (ls : List Line) (set : ℕ → Bool) →
    ringed ls ≡ false →
    (k : ℕ) →
    stands k kinds ≡ true →
    Covered kinds ls set k →
    (u : ℕ) × Uppermost kinds ls set u × Descends ls k u
