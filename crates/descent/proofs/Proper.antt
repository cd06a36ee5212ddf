-- What the tests for kinds, places and lines that stand tell, place by place.
use Rattle.std.proofs.Common.{◌≡◌, ℕ, zero, suc, ◌<◌, ◌≤◌, true, false, not, ◌&&◌, eqb, ltb, List, [], ◌∷◌, length, get_or, sym, refl, ◌∙◌, inl, inr, arith}
use Rattle.std.specs.List.{IsDistinct, AllByRecursion, list_any}
use Rattle.std.proofs.lemmas.List.{length-map}
use Rattle.std.proofs.lemmas.Map.Steps.{length-le_from_distinct_below}
use Rattle.std.proofs.lemmas.Bool.{false≢true, and_parts, or_parts, or_cases, ltb-true, not-true, eqb-true, eqb-false, ne_eqb, cases_Bool, cases_eq}
use Rattle.descent.specs.declared.line.Line.{Line}
use Rattle.descent.specs.declared.standing.Standing.{Standing}
use Rattle.descent.specs.Lines.{has_line, serials_of, places_of, stands, Distinct}
use Rattle.descent.specs.Order.{rising_from}
use Rattle.descent.specs.Proper.{CanHold, below, distinct, joins, joining}
use Rattle.descent.specs.Closure.{Placed}
use Rattle.descent.specs.Rings.{NoOwnParent}
use Rattle.descent.proofs.Lines.{line_cases, distinct_more}

-- a rising row is above its start
pub rising_above : (a : ℕ) (xs : List ℕ) → rising_from a xs ≡ true → (i : ℕ) → i < length xs → a < get_or xs i 0
rising_above a [] r i h = absurd (omega arith)
rising_above a (x ∷ xs) r zero h = ltb-true a x (and_parts (ltb a x) (rising_from x xs) r).0
rising_above a (x ∷ xs) r (suc i) h =
    let p = and_parts (ltb a x) (rising_from x xs) r in
    let step = ltb-true a x p.0 in
    let rest = rising_above x xs p.1 i (omega arith) in
    omega arith

-- and rises from each place to each later one
pub rising_later : (a : ℕ) (xs : List ℕ) → rising_from a xs ≡ true →
    (i j : ℕ) → i < j → j < length xs → get_or xs i 0 < get_or xs j 0
rising_later a [] r i j lt h = absurd (omega arith)
rising_later a (x ∷ xs) r i zero lt h = absurd (omega arith)
rising_later a (x ∷ xs) r zero (suc j) lt h =
    rising_above x xs (and_parts (ltb a x) (rising_from x xs) r).1 j (omega arith)
rising_later a (x ∷ xs) r (suc i) (suc j) lt h =
    rising_later x xs (and_parts (ltb a x) (rising_from x xs) r).1 i j (omega arith) (omega arith)

pub rising_upto : (a : ℕ) (xs : List ℕ) → rising_from a xs ≡ true →
    (i j : ℕ) → i ≤ j → j < length xs → get_or xs i 0 ≤ get_or xs j 0
rising_upto a xs r i j le h =
    elim (cases_eq i j) [
      | inl e ↦ rw e (omega arith)
      | inr ne ↦ let lt = rising_later a xs r i j (omega arith) h in omega arith
    ]

pub rising-distinct : (a : ℕ) (xs : List ℕ) → rising_from a xs ≡ true → Distinct xs
rising-distinct a xs r i j lt h e = let up = rising_later a xs r i j lt h in omega arith

pub below_at : (w : ℕ) (xs : List ℕ) → below w xs ≡ true → (i : ℕ) → i < length xs → get_or xs i 0 < w
below_at w [] b i h = absurd (omega arith)
below_at w (x ∷ xs) b zero h = ltb-true x w (and_parts (ltb x w) (below w xs) b).0
below_at w (x ∷ xs) b (suc i) h = below_at w xs (and_parts (ltb x w) (below w xs) b).1 i (omega arith)

pub distinct_apart : (xs : List ℕ) → distinct xs ≡ true → Distinct xs
distinct_apart [] d = λ i j lt h e. omega arith
distinct_apart (x ∷ xs) d =
    let p = and_parts (not (stands x xs)) (distinct xs) d in
    distinct_more x xs (not-true (stands x xs) p.0) (distinct_apart xs p.1)

-- a line that stands is between two different kinds that stand
pub joining-line : (kinds : List ℕ) (ls : List Line) → joining kinds ls ≡ true → (c p : ℕ) → has_line c p ls ≡ true →
    (stands c kinds ≡ true) × (stands p kinds ≡ true) × (c ≡ p → ⊥)
joining-line kinds [] j c p h = absurd (false≢true h)
joining-line kinds (l ∷ ls) j c p h =
    let q = and_parts (joins kinds l) (joining kinds ls) j in
    elim (line_cases l ls c p h) [
      | inl e ↦
          let child = stands l.child kinds in
          let parent = stands l.parent kinds in
          let other = not (eqb l.child l.parent) in
          let a = and_parts child (parent && other) q.0 in
          let b = and_parts parent other a.1 in
          let differ = not-true (eqb l.child l.parent) b.1 in
          (rw e.0 at a.0, rw e.1 at b.0, λ same. eqb-false l.child l.parent differ (e.0 ∙ same ∙ sym e.1))
      | inr e ↦ joining-line kinds ls q.1 c p e
    ]

pub joining-own : (kinds : List ℕ) (ls : List Line) → joining kinds ls ≡ true → NoOwnParent ls
joining-own kinds ls j k =
    elim (cases_Bool (has_line k k ls)) [
      | inl e ↦ absurd ((joining-line kinds ls j k k e).2 refl)
      | inr e ↦ e
    ]

-- what passes the tests is placed
pub proper_placed : (w : ℕ) (kinds places : List ℕ) (ls : List Line) → length places ≡ length kinds →
    rising_from 0 kinds ≡ true → below w places ≡ true → distinct places ≡ true → joining kinds ls ≡ true →
    Placed w kinds places ls
proper_placed w kinds places ls paired rise low apart join = record {
  paired = paired;
  below = λ a h. below_at w places low a (omega arith);
  apart = distinct_apart places apart;
  different = rising-distinct 0 kinds rise;
  between = λ c p h. let q = joining-line kinds ls join c p h in (q.0, q.1);
}

-- a number that is not in the list differs from each of it
differs_from : (x : ℕ) (xs : List ℕ) → stands x xs ≡ false → AllByRecursion (λ y. eqb x y ≡ false) xs
differs_from x [] h = tt
differs_from x (y ∷ ys) h =
    let p = or_parts (eqb y x) (stands x ys) h in
    (ne_eqb x y (λ e. eqb-false y x p.0 (sym e)), differs_from x ys p.1)

distinct_keys : (xs : List ℕ) → distinct xs ≡ true → IsDistinct eqb xs
unfolding IsDistinct
distinct_keys [] d = tt
distinct_keys (x ∷ xs) d =
    let p = and_parts (not (stands x xs)) (distinct xs) d in
    (differs_from x xs (not-true (stands x xs) p.0), distinct_keys xs p.1)

below_each : (w : ℕ) (xs : List ℕ) → below w xs ≡ true → (q : ℕ) → list_any (eqb q) xs ≡ true → q < w
below_each w [] b q h = absurd (false≢true h)
below_each w (x ∷ xs) b q h =
    let p = and_parts (ltb x w) (below w xs) b in
    elim (or_cases (eqb q x) (list_any (eqb q) xs) h) [
      | inl e ↦ let same = eqb-true q x e in let low = ltb-true x w p.0 in omega (arith, same, low)
      | inr e ↦ below_each w xs p.1 q e
    ]

-- kinds at different places below the width are no more than the places
pub standing_fits : (s : Standing) → length s.kinds.now ≤ s.width
standing_fits s =
    let fits = length-le_from_distinct_below (places_of s.kinds.now) s.width (distinct_keys (places_of s.kinds.now) s.apart) (below_each s.width (places_of s.kinds.now) s.low) in
    omega (arith, fits, length-map s.kinds.now (λ k. k.place))

-- what is lent, a catalogue can hold, where the lines are few enough
pub lent-held : (s : Standing) → length s.lines.now ≤ 2048 → CanHold s.width (serials_of s.kinds.now) s.lines.now
lent-held s few = record {
  wide = s.wide.1;
  places = omega (arith, standing_fits s, length-map s.kinds.now (λ k. k.serial));
  rising = s.rising;
  serials = s.serials;
  ordered = s.ordered;
  joins = s.joins;
  few = few;
}
