-- What follows from a standing line, and where in a list a kind or a line stands.
use Rattle.std.proofs.Common.{◌≡◌, ℕ, zero, suc, ◌+◌, ◌<◌, Bool, true, false, ◌&&◌, ◌||◌, eqb, ◌⊎◌, List, [], ◌∷◌, ◌++◌, length, get_or, take, sym, refl, ap, ◌∙◌, inl, inr, arith}
use Rattle.std.proofs.lemmas.List.{take_more, get_or-map, length-map}
use Rattle.std.proofs.lemmas.Bool.{false≢true, or_cases, and_parts, and_from, or_left, or_right, eqb-true, eq-eqb, cases_order, both_ways, cases_Bool}
use Rattle.descent.specs.declared.kind.Kind.{Kind}
use Rattle.descent.specs.declared.line.Line.{Line}
use Rattle.descent.specs.Lines.{places_of, has_line, mentioned, stands, Distinct}

or_false : (x : Bool) → (x || false) ≡ x
or_false true = refl
or_false false = refl

or_assoc : (x y z : Bool) → ((x || y) || z) ≡ (x || (y || z))
or_assoc true y z = refl
or_assoc false y z = refl

-- the first line of a list stands
pub line_here : (l : Line) (ls : List Line) (c p : ℕ) → l.child ≡ c → l.parent ≡ p → has_line c p (l ∷ ls) ≡ true
line_here l ls c p e f =
    or_left (eqb l.child c && eqb l.parent p) (has_line c p ls)
    (and_from (eqb l.child c) (eqb l.parent p) (eq-eqb l.child c e) (eq-eqb l.parent p f))

-- what stands in the rest of a list stands in the list
pub line_later : (l : Line) (ls : List Line) (c p : ℕ) → has_line c p ls ≡ true → has_line c p (l ∷ ls) ≡ true
line_later l ls c p h = or_right (eqb l.child c && eqb l.parent p) (has_line c p ls) h

-- a line that stands is the first, or stands in the rest
pub line_cases : (l : Line) (ls : List Line) (c p : ℕ) →
    has_line c p (l ∷ ls) ≡ true → ((l.child ≡ c) × (l.parent ≡ p)) ⊎ (has_line c p ls ≡ true)
line_cases l ls c p h =
    elim (or_cases (eqb l.child c && eqb l.parent p) (has_line c p ls) h) [
      | inl e ↦
          let q = and_parts (eqb l.child c) (eqb l.parent p) e in
          inl (eqb-true l.child c q.0, eqb-true l.parent p q.1)
      | inr e ↦ inr e
    ]

-- a line that some place of the list has stands
pub line-found : (c p : ℕ) (ls : List Line) (i : ℕ) (d : Line) →
    i < length ls → (get_or ls i d).child ≡ c → (get_or ls i d).parent ≡ p → has_line c p ls ≡ true
line-found c p [] i d h e f = absurd (omega arith)
line-found c p (l ∷ ls) zero d h e f = line_here l ls c p e f
line-found c p (l ∷ ls) (suc i) d h e f = line_later l ls c p (line-found c p ls i d (omega arith) e f)

pub line_stands_at : (ls : List Line) (i : ℕ) (d : Line) → i < length ls → has_line (get_or ls i d).child (get_or ls i d).parent ls ≡ true
line_stands_at ls i d h = line-found (get_or ls i d).child (get_or ls i d).parent ls i d h refl refl

pub line_position : (c p : ℕ) (ls : List Line) (d : Line) → has_line c p ls ≡ true →
    (i : ℕ) × (i < length ls) × ((get_or ls i d).child ≡ c) × ((get_or ls i d).parent ≡ p)
line_position c p [] d h = absurd (false≢true h)
line_position c p (l ∷ ls) d h =
    elim (line_cases l ls c p h) [
      | inl e ↦ (0, omega arith, e.0, e.1)
      | inr e ↦ let q = line_position c p ls d e in (suc q.0, omega (arith, q.1), q.2, q.3)
    ]

pub line_mentions_child : (c p : ℕ) (ls : List Line) → has_line c p ls ≡ true → mentioned c ls ≡ true
line_mentions_child c p [] h = h
line_mentions_child c p (l ∷ ls) h =
    elim (line_cases l ls c p h) [
      | inl e ↦
          or_left (eqb l.child c || eqb l.parent c) (mentioned c ls)
          (or_left (eqb l.child c) (eqb l.parent c) (eq-eqb l.child c e.0))
      | inr e ↦ or_right (eqb l.child c || eqb l.parent c) (mentioned c ls) (line_mentions_child c p ls e)
    ]

pub line_mentions_parent : (c p : ℕ) (ls : List Line) → has_line c p ls ≡ true → mentioned p ls ≡ true
line_mentions_parent c p [] h = h
line_mentions_parent c p (l ∷ ls) h =
    elim (line_cases l ls c p h) [
      | inl e ↦
          or_left (eqb l.child p || eqb l.parent p) (mentioned p ls)
          (or_right (eqb l.child p) (eqb l.parent p) (eq-eqb l.parent p e.1))
      | inr e ↦ or_right (eqb l.child p || eqb l.parent p) (mentioned p ls) (line_mentions_parent c p ls e)
    ]

-- a kind has a line up, or a line down
abbrev pub Lined : ℕ → List Line → Type 0
Lined k ls = ((p : ℕ) × (has_line k p ls ≡ true)) ⊎ ((c : ℕ) × (has_line c k ls ≡ true))

pub mentioned_lined : (k : ℕ) (ls : List Line) → mentioned k ls ≡ true → Lined k ls
mentioned_lined k [] h = absurd (false≢true h)
mentioned_lined k (l ∷ ls) h =
    elim (or_cases (eqb l.child k || eqb l.parent k) (mentioned k ls) h) [
      | inl e ↦
          elim (or_cases (eqb l.child k) (eqb l.parent k) e) [
            | inl q ↦ inl (l.parent, line_here l ls k l.parent (eqb-true l.child k q) refl)
            | inr q ↦ inr (l.child, line_here l ls l.child k refl (eqb-true l.parent k q))
          ]
      | inr e ↦
          elim (mentioned_lined k ls e) [
            | inl q ↦ inl (q.0, line_later l ls k q.0 q.1)
            | inr q ↦ inr (q.0, line_later l ls q.0 k q.1)
          ]
    ]

-- a kind that some place of the list has stands
pub stands-found : (k : ℕ) (xs : List ℕ) (i : ℕ) → i < length xs → get_or xs i 0 ≡ k → stands k xs ≡ true
stands-found k [] i h e = absurd (omega arith)
stands-found k (x ∷ xs) zero h e = or_left (eqb x k) (stands k xs) (eq-eqb x k e)
stands-found k (x ∷ xs) (suc i) h e = or_right (eqb x k) (stands k xs) (stands-found k xs i (omega arith) e)

pub stands_at : (xs : List ℕ) (i : ℕ) → i < length xs → stands (get_or xs i 0) xs ≡ true
stands_at xs i h = stands-found (get_or xs i 0) xs i h refl

pub stands_position : (k : ℕ) (xs : List ℕ) → stands k xs ≡ true → (i : ℕ) × (i < length xs) × (get_or xs i 0 ≡ k)
stands_position k [] h = absurd (false≢true h)
stands_position k (x ∷ xs) h =
    elim (or_cases (eqb x k) (stands k xs) h) [
      | inl e ↦ (0, omega arith, eqb-true x k e)
      | inr e ↦ let q = stands_position k xs e in (suc q.0, omega (arith, q.1), q.2)
    ]

-- in a list without repeats a number has one position
pub same_position : (xs : List ℕ) → Distinct xs → (i j : ℕ) →
    i < length xs → j < length xs → get_or xs i 0 ≡ get_or xs j 0 → i ≡ j
same_position xs apart i j hi hj e =
    elim (cases_order i j) [
      | inl q ↦ q
      | inr q ↦ elim q [ inl lt ↦ absurd (apart i j lt hj e) | inr gt ↦ absurd (apart j i gt hi (sym e)) ]
    ]

pub distinct_one : (x : ℕ) → Distinct (x ∷ [])
distinct_one x i j lt h e = omega arith

-- a number that is not in the list may be put before it
pub distinct_more : (x : ℕ) (xs : List ℕ) → stands x xs ≡ false → Distinct xs → Distinct (x ∷ xs)
distinct_more x xs out apart i zero lt h e = omega arith
distinct_more x xs out apart zero (suc j) lt h e =
    let k : j < length xs = omega arith in both_ways (stands x xs) out (rw e (stands_at xs j k))
distinct_more x xs out apart (suc i) (suc j) lt h e = apart i j (omega arith) (omega arith) e

-- what no place of the list has does not stand
pub stands_none : (k : ℕ) (xs : List ℕ) → ((i : ℕ) → i < length xs → get_or xs i 0 ≡ k → ⊥) → stands k xs ≡ false
stands_none k xs out =
    elim (cases_Bool (stands k xs)) [
      | inl e ↦ let q = stands_position k xs e in absurd (out q.0 q.1 q.2)
      | inr e ↦ e
    ]

pub line_none : (c p : ℕ) (ls : List Line) (d : Line) →
    ((i : ℕ) → i < length ls → (get_or ls i d).child ≡ c → (get_or ls i d).parent ≡ p → ⊥) → has_line c p ls ≡ false
line_none c p ls d out =
    elim (cases_Bool (has_line c p ls)) [
      | inl e ↦ let q = line_position c p ls d e in absurd (out q.0 q.1 q.2 q.3)
      | inr e ↦ e
    ]

-- lists one after the other
pub stands_append : (k : ℕ) (xs ys : List ℕ) → stands k (xs ++ ys) ≡ (stands k xs || stands k ys)
stands_append k [] ys = refl
stands_append k (x ∷ xs) ys =
    ap (λ b. eqb x k || b) (stands_append k xs ys) ∙ sym (or_assoc (eqb x k) (stands k xs) (stands k ys))

pub line_append : (c p : ℕ) (ls ms : List Line) → has_line c p (ls ++ ms) ≡ (has_line c p ls || has_line c p ms)
line_append c p [] ms = refl
line_append c p (l ∷ ls) ms =
    ap (λ b. (eqb l.child c && eqb l.parent p) || b) (line_append c p ls ms)
    ∙ sym (or_assoc (eqb l.child c && eqb l.parent p) (has_line c p ls) (has_line c p ms))

pub mentioned_append : (k : ℕ) (ls ms : List Line) → mentioned k (ls ++ ms) ≡ (mentioned k ls || mentioned k ms)
mentioned_append k [] ms = refl
mentioned_append k (l ∷ ls) ms =
    ap (λ b. (eqb l.child k || eqb l.parent k) || b) (mentioned_append k ls ms)
    ∙ sym (or_assoc (eqb l.child k || eqb l.parent k) (mentioned k ls) (mentioned k ms))

-- one place more of a list
pub stands_more : (k : ℕ) (xs : List ℕ) (i : ℕ) → i < length xs →
    stands k (take (i + 1) xs) ≡ (stands k (take i xs) || eqb (get_or xs i 0) k)
stands_more k xs i h =
    ap (stands k) (take_more xs i 0 h)
    ∙ stands_append k (take i xs) (get_or xs i 0 ∷ [])
    ∙ ap (λ b. stands k (take i xs) || b) (or_false (eqb (get_or xs i 0) k))

-- a kind's place stands in the row of the places, at the kind's index
pub place_at : (kinds : List Kind) (i : ℕ) (d : Kind) → i < length kinds → (i < length (places_of kinds)) × (get_or (places_of kinds) i 0 ≡ (get_or kinds i d).place)
place_at kinds i d lt = (simp length-map lt, get_or-map (λ k. k.place) kinds i d 0 lt)

pub line_more : (c p : ℕ) (ls : List Line) (i : ℕ) (d : Line) → i < length ls →
    has_line c p (take (i + 1) ls)
    ≡ (has_line c p (take i ls) || (eqb (get_or ls i d).child c && eqb (get_or ls i d).parent p))
line_more c p ls i d h =
    ap (has_line c p) (take_more ls i d h)
    ∙ line_append c p (take i ls) (get_or ls i d ∷ [])
    ∙ ap (λ b. has_line c p (take i ls) || b) (or_false (eqb (get_or ls i d).child c && eqb (get_or ls i d).parent p))

pub mentioned_more : (k : ℕ) (ls : List Line) (i : ℕ) (d : Line) → i < length ls →
    mentioned k (take (i + 1) ls)
    ≡ (mentioned k (take i ls) || (eqb (get_or ls i d).child k || eqb (get_or ls i d).parent k))
mentioned_more k ls i d h =
    ap (mentioned k) (take_more ls i d h)
    ∙ mentioned_append k (take i ls) (get_or ls i d ∷ [])
    ∙ ap (λ b. mentioned k (take i ls) || b) (or_false (eqb (get_or ls i d).child k || eqb (get_or ls i d).parent k))
