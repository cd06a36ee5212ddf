-- The table before it is closed, and what stands behind it.
use Rattle.std.proofs.Common.{◌≡◌, ℕ, zero, suc, ◌+◌, ◌<◌, Bool, true, cond, ◌&&◌, ◌||◌, eqb, List, [], ◌∷◌, map, length, get_or, take, find, Some, sym, refl, ap, ◌∙◌, inl, inr, arith}
use Rattle.std.specs.Option.{option_map_or}
use Rattle.std.proofs.lemmas.List.Recursion.{or_push}
use Rattle.std.proofs.lemmas.List.{take_more, length-map}
use Rattle.std.proofs.lemmas.Bool.{false≢true, or_cases, or_left, or_right, and_parts, and_from, eqb-true, eq-eqb, ne_eqb, cases_Bool}
use Rattle.std.proofs.lemmas.Bool.Decides.{nat_tests}
use Rattle.descent.specs.declared.kind.Kind.{Kind}
use Rattle.descent.specs.declared.line.Line.{Line}
use Rattle.descent.specs.declared.standing.Standing.{Standing}
use Rattle.descent.specs.Lines.{serials_of, places_of, has_line, stands, Distinct}
use Rattle.descent.specs.Closure.{Placed, JustBelow, Direct}
use Rattle.descent.proofs.Lines.{line_here, line_later, line_stands_at, line_cases, stands_more, stands_at, stands_position}
use Rattle.descent.proofs.Proper.{proper_placed, joining-line}
use Rattle.search.specs.Order.{Cut}
use Rattle.search.proofs.Halving.{cut_at}
use Rattle.closing.specs.Direct.{found, place_of, serial_at, own, linked, direct}

-- where keys are different, the value by a kind's key is that kind's
pub found_at : (key value : Kind → ℕ) (kinds : List Kind) → Distinct (map key kinds) → (a : ℕ) → a < length kinds →
    found key value kinds (get_or (map key kinds) a 0) ≡ get_or (map value kinds) a 0
found_at key value [] apart a lt = absurd (omega arith)
found_at key value (k ∷ ks) apart zero lt =
    ap (λ b. option_map_or value (cond b (Some k) (find (λ y. eqb (key y) (key k)) ks)) 0) (eq-eqb (key k) (key k) refl)
found_at key value (k ∷ ks) apart (suc a) lt =
    let x = get_or (map key ks) a 0 in
    let inside : suc a < length (map key (k ∷ ks)) = simp length-map lt in
    ap (λ b. option_map_or value (cond b (Some k) (find (λ y. eqb (key y) x) ks)) 0)
    (ne_eqb (key k) x (λ e. apart 0 (suc a) (omega arith) inside e))
    ∙ found_at key value ks (λ i j l h e. apart (suc i) (suc j) (omega arith) (omega arith) e) a (omega arith)

own_both : (i j p : ℕ) (s : Bool) → (eqb i j && (s || eqb p i)) ≡ ((eqb i j && s) || (eqb i p && eqb j p))
own_both i j p s = elim (cases_Bool s) [ inl e ↦ rw e (grind (arith, nat_tests)) | inr e ↦ rw e (grind (arith, nat_tests)) ]

pub own_more : (places : List ℕ) (n i j : ℕ) → n < length places →
    own (take (n + 1) places) i j ≡ (own (take n places) i j || (eqb i (get_or places n 0) && eqb j (get_or places n 0)))
own_more places n i j lt =
    ap (λ b. eqb i j && b) (stands_more i places n lt) ∙ own_both i j (get_or places n 0) (stands i (take n places))

pub linked_more : (kinds : List Kind) (ls : List Line) (n i j : ℕ) (d : Line) → n < length ls →
    linked kinds (take (n + 1) ls) i j
    ≡ (linked kinds (take n ls) i j
    || (eqb i (place_of kinds (get_or ls n d).parent) && eqb j (place_of kinds (get_or ls n d).child)))
linked_more kinds ls n i j d lt =
    ap (λ xs. linked kinds xs i j) (take_more ls n d lt)
    ∙ or_push (λ xs. linked kinds xs i j) (λ l. eqb i (place_of kinds l.parent) && eqb j (place_of kinds l.child))
    refl (λ l rest. refl) (take n ls) (get_or ls n d)

linked-line : (kinds : List Kind) (ls : List Line) (c p : ℕ) → has_line c p ls ≡ true →
    linked kinds ls (place_of kinds p) (place_of kinds c) ≡ true
linked-line kinds [] c p h = h
linked-line kinds (l ∷ ls) c p h =
    let i = place_of kinds p in
    let j = place_of kinds c in
    let a = eqb i (place_of kinds l.parent) in
    let b = eqb j (place_of kinds l.child) in
    elim (line_cases l ls c p h) [
      | inl e ↦
          or_left (a && b) (linked kinds ls i j)
          (and_from a b (eq-eqb i (place_of kinds l.parent) (ap (place_of kinds) (sym e.1))) (eq-eqb j (place_of kinds l.child) (ap (place_of kinds) (sym e.0))))
      | inr e ↦ or_right (a && b) (linked kinds ls i j) (linked-line kinds ls c p e)
    ]

linked_some : (kinds : List Kind) (ls : List Line) (i j : ℕ) → linked kinds ls i j ≡ true →
    (c : ℕ) × (p : ℕ) × (has_line c p ls ≡ true) × (i ≡ place_of kinds p) × (j ≡ place_of kinds c)
linked_some kinds [] i j h = absurd (false≢true h)
linked_some kinds (l ∷ ls) i j h =
    let a = eqb i (place_of kinds l.parent) in
    let b = eqb j (place_of kinds l.child) in
    elim (or_cases (a && b) (linked kinds ls i j) h) [
      | inl e ↦
          let q = and_parts a b e in
          (l.child, l.parent, line_here l ls l.child l.parent refl refl, eqb-true i (place_of kinds l.parent) q.0, eqb-true j (place_of kinds l.child) q.1)
      | inr e ↦ let q = linked_some kinds ls i j e in (q.0, q.1, line_later l ls q.0 q.1 q.2, q.3, q.4)
    ]

-- the line at a position, as code reads it
abbrev pub line_at : List Line → ℕ → Line
line_at ls n = get_or ls n (record { child = 0; parent = 0 })

module _ (st : Standing) where
  pub standing_placed : Placed st.width (serials_of st.kinds.now) (places_of st.kinds.now) st.lines.now
  standing_placed =
      let ks = st.kinds.now in
      proper_placed st.width (serials_of ks) (places_of ks) st.lines.now (length-map ks (λ k. k.place) ∙ sym (length-map ks (λ k. k.serial))) st.rising st.low st.apart st.joins

  -- the place of the kind at a position
  pub place_at : (a : ℕ) → a < length st.kinds.now →
      place_of st.kinds.now (get_or (serials_of st.kinds.now) a 0) ≡ get_or (places_of st.kinds.now) a 0
  place_at a lt = found_at (λ k. k.serial) (λ k. k.place) st.kinds.now standing_placed.different a lt

  -- and its serial, back from the place
  pub serial_back : (a : ℕ) → a < length st.kinds.now →
      serial_at st.kinds.now (get_or (places_of st.kinds.now) a 0) ≡ get_or (serials_of st.kinds.now) a 0
  serial_back a lt = found_at (λ k. k.place) (λ k. k.serial) st.kinds.now standing_placed.apart a lt

  -- where a serial stands, and its place
  pub stands-place : (x : ℕ) → stands x (serials_of st.kinds.now) ≡ true →
      (a : ℕ) × (a < length (serials_of st.kinds.now)) × (get_or (serials_of st.kinds.now) a 0 ≡ x) × (place_of st.kinds.now x ≡ get_or (places_of st.kinds.now) a 0)
  stands-place x h =
      let q = stands_position x (serials_of st.kinds.now) h in
      let lt : q.0 < length st.kinds.now = simp length-map at q.1 in
      (q.0, q.1, q.2, rw q.2 at (place_at q.0 lt))

  -- the cut of a serial that stands is the index of its kind
  pub cut-stands : (x cut : ℕ) → stands x (serials_of st.kinds.now) ≡ true → Cut (serials_of st.kinds.now) x cut →
      (cut < length st.kinds.now) × (place_of st.kinds.now x ≡ get_or (places_of st.kinds.now) cut 0)
  cut-stands x cut h c =
      let q = stands-place x h in
      let same = cut_at 0 (serials_of st.kinds.now) x cut q.0 st.rising c q.1 q.2 in
      let inside : q.0 < length st.kinds.now = simp length-map at q.1 in
      (omega arith, rw same q.3)

  pub place-below : (x : ℕ) → stands x (serials_of st.kinds.now) ≡ true → place_of st.kinds.now x < st.width
  place-below x h = let q = stands-place x h in rw q.3 (standing_placed.below q.0 q.1)

  pub serial_of_place : (x : ℕ) → stands x (serials_of st.kinds.now) ≡ true →
      serial_at st.kinds.now (place_of st.kinds.now x) ≡ x
  serial_of_place x h =
      let q = stands-place x h in
      let lt : q.0 < length st.kinds.now = simp length-map at q.1 in
      rw q.3 (serial_back q.0 lt ∙ q.2)

  -- the two kinds of a line stand
  pub line_ends : (n : ℕ) → n < length st.lines.now →
      (stands (line_at st.lines.now n).child (serials_of st.kinds.now) ≡ true)
      × (stands (line_at st.lines.now n).parent (serials_of st.kinds.now) ≡ true)
  line_ends n lt =
      let l = line_at st.lines.now n in
      let q = joining-line (serials_of st.kinds.now) st.lines.now st.joins l.child l.parent
      (line_stands_at st.lines.now n (record { child = 0; parent = 0 }) lt) in
      (q.0, q.1)

  pub direct_right : Direct st.width (serials_of st.kinds.now) (places_of st.kinds.now) st.lines.now
      (direct st.kinds.now st.lines.now)
  direct_right i j hi hj = (to, from)
    where
      to : direct st.kinds.now st.lines.now i j ≡ true → JustBelow (serials_of st.kinds.now) (places_of st.kinds.now) st.lines.now i j
      to h =
          elim (or_cases (own (places_of st.kinds.now) i j) (linked st.kinds.now st.lines.now i j) h) [
            | inl e ↦
                let q = and_parts (eqb i j) (stands i (places_of st.kinds.now)) e in
                let a = stands_position i (places_of st.kinds.now) q.1 in
                let n = standing_placed.paired in
                record {
                  upper = a.0;
                  lower = a.0;
                  upper_stands = omega (arith, a.1);
                  lower_stands = omega (arith, a.1);
                  upper_place = a.2;
                  lower_place = a.2 ∙ eqb-true i j q.0;
                  near = inl refl;
                }
            | inr e ↦
                let q = linked_some st.kinds.now st.lines.now i j e in
                let both = joining-line (serials_of st.kinds.now) st.lines.now st.joins q.0 q.1 q.2 in
                let c = stands-place q.0 both.0 in
                let p = stands-place q.1 both.1 in
                record {
                  upper = p.0;
                  lower = c.0;
                  upper_stands = p.1;
                  lower_stands = c.1;
                  upper_place = sym (q.3 ∙ p.3);
                  lower_place = sym (q.4 ∙ c.3);
                  near = inr (rw (c.2, p.2) q.2);
                }
          ]

      from : JustBelow (serials_of st.kinds.now) (places_of st.kinds.now) st.lines.now i j → direct st.kinds.now st.lines.now i j ≡ true
      from b =
          let n = standing_placed.paired in
          let up : b.upper < length st.kinds.now = simp length-map at b.upper_stands in
          let low : b.lower < length st.kinds.now = simp length-map at b.lower_stands in
          elim b.near [
            | inl e ↦
                let at : b.upper < length (places_of st.kinds.now) = omega (arith, b.upper_stands) in
                let same : i ≡ j = sym b.upper_place ∙ ap (λ x. get_or (places_of st.kinds.now) x 0) e ∙ b.lower_place in
                or_left (own (places_of st.kinds.now) i j) (linked st.kinds.now st.lines.now i j)
                (and_from (eqb i j) (stands i (places_of st.kinds.now)) (eq-eqb i j same)
                (rw b.upper_place at (stands_at (places_of st.kinds.now) b.upper at)))
            | inr h ↦
                or_right (own (places_of st.kinds.now) i j) (linked st.kinds.now st.lines.now i j)
                (rw (place_at b.upper up, place_at b.lower low, b.upper_place, b.lower_place) at
                (linked-line st.kinds.now st.lines.now (get_or (serials_of st.kinds.now) b.lower 0) (get_or (serials_of st.kinds.now) b.upper 0) h))
          ]
