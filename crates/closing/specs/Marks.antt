-- What a walk up the lines has met.
use Rattle.std.specs.Prelude.{◌≡◌, ℕ, ◌<◌, true, List, map, length, drop, slice_index}
use Rattle.descent.specs.declared.kind.Kind.{Kind}
use Rattle.descent.specs.declared.line.Line.{Line}
use Rattle.descent.specs.Lines.{serials_of, stands}
use Rattle.descent.specs.Rings.{Ring}
use Rattle.closing.specs.Direct.{place_of}

-- the places met are those of standing kinds, and from wherever `at` was met the kinds are a ring
pub record Looped (kinds : List Kind) (ls : List Line) (met : List ℕ) (at : ℕ) : Type 0 where
  pub trail : List ℕ
  pub standing : (i : ℕ) → i < length trail → stands (slice_index trail i) (serials_of kinds) ≡ true
  pub places : met ≡ map (place_of kinds) trail
  pub again : stands at met ≡ true
  pub ring : (s : ℕ) → s < length met → slice_index met s ≡ at → Ring ls (drop s trail)

-- the places are those of a ring of standing kinds
pub record Round (kinds : List Kind) (ls : List Line) (places : List ℕ) : Type 0 where
  pub trail : List ℕ
  pub standing : (i : ℕ) → i < length trail → stands (slice_index trail i) (serials_of kinds) ≡ true
  pub met : places ≡ map (place_of kinds) trail
  pub ring : Ring ls trail
