-- The places stay the places below the width, each once.
use Rattle.std.proofs.Common.{◌≡◌, ℕ, zero, suc, ◌+◌, ◌<◌, ◌≤◌, Bool, true, false, not, ◌&&◌, eqb, ltb, List, [], ◌∷◌, ◌++◌, length, get_or, take, drop, drop-cons, sym, refl, ap, ◌∙◌, ap₂, arith}
use Rattle.std.specs.List.{insert, remove, range_with_len}
use Rattle.std.proofs.lemmas.List.{append_assoc, append-nil, length-append, take-append-drop}
use Rattle.descent.specs.Proper.{below, distinct}
use Rattle.catalogue.specs.Proper.{seated}
use Rattle.std.proofs.lemmas.List.FromFn.{length-range_with_len}
use Rattle.std.proofs.lemmas.Bool.{and_from, and_parts, or_from, or_parts, not-true, not_from_false, ne_eqb, eq-eqb, lt-ltb}
use Rattle.descent.specs.Lines.{stands}
use Rattle.descent.proofs.Rows.{below_middle, distinct_middle}
use Rattle.descent.proofs.Lines.{stands_append}

length_middle : (xs ys : List ℕ) (y : ℕ) → length (xs ++ y ∷ ys) ≡ length (y ∷ (xs ++ ys))
length_middle xs ys y = omega (arith, length-append xs (y ∷ ys), length-append xs ys)

-- a place in the middle may as well stand first
pub seated_middle : (w : ℕ) (xs ys : List ℕ) (y : ℕ) → seated w (xs ++ y ∷ ys) ≡ seated w (y ∷ (xs ++ ys))
seated_middle w xs ys y =
    ap₂ (λ (a : ℕ) (b : Bool). eqb a w && b) (length_middle xs ys y) (ap₂ (λ (a b : Bool). a && b) (below_middle w xs ys y) (distinct_middle xs ys y))

-- the last place moves to where a kind is put in
pub seated_inserted : (w : ℕ) (xs free free' : List ℕ) (i p : ℕ) → free ≡ free' ++ p ∷ [] → seated w (xs ++ free) ≡ true → seated w (insert xs i p ++ free') ≡ true
seated_inserted w xs free free' i p e h =
    let front : seated w (p ∷ (xs ++ free')) ≡ true =
    sym (ap (λ (ys : List ℕ). seated w (xs ++ ys)) e ∙ ap (seated w) (sym (append_assoc xs free' (p ∷ []))) ∙ seated_middle w (xs ++ free') [] p
    ∙ ap (λ (ys : List ℕ). seated w (p ∷ ys)) (append-nil (xs ++ free'))) ∙ h in
    ap (seated w) (append_assoc (take i xs) (p ∷ drop i xs) free') ∙ seated_middle w (take i xs) (drop i xs ++ free') p
    ∙ ap (λ (ys : List ℕ). seated w (p ∷ ys)) (sym (append_assoc (take i xs) (drop i xs) free') ∙ ap (λ (ys : List ℕ). ys ++ free') (take-append-drop i xs)) ∙ front

-- the place of a kind that is taken out moves to the end
pub seated_removed : (w : ℕ) (xs free free' : List ℕ) (i p : ℕ) → i < length xs → get_or xs i 0 ≡ p → free' ≡ free ++ p ∷ [] → seated w (xs ++ free) ≡ true → seated w (remove xs i ++ free') ≡ true
seated_removed w xs free free' i p l is e h =
    let whole : xs ≡ take i xs ++ p ∷ drop (suc i) xs =
    sym (take-append-drop i xs) ∙ ap (λ (ys : List ℕ). take i xs ++ ys) (drop-cons xs i 0 l ∙ ap (λ (q : ℕ). q ∷ drop (suc i) xs) is) in
    let front : seated w (p ∷ (remove xs i ++ free)) ≡ true =
    sym (ap (λ (ys : List ℕ). seated w (ys ++ free)) whole ∙ ap (seated w) (append_assoc (take i xs) (p ∷ drop (suc i) xs) free)
    ∙ seated_middle w (take i xs) (drop (suc i) xs ++ free) p ∙ ap (λ (ys : List ℕ). seated w (p ∷ ys)) (sym (append_assoc (take i xs) (drop (suc i) xs) free))) ∙ h in
    ap (λ (ys : List ℕ). seated w (remove xs i ++ ys)) e ∙ ap (seated w) (sym (append_assoc (remove xs i) free (p ∷ [])))
    ∙ seated_middle w (remove xs i ++ free) [] p ∙ ap (λ (ys : List ℕ). seated w (p ∷ ys)) (append-nil (remove xs i ++ free)) ∙ front

counting_below : (w a n : ℕ) → a + n ≤ w → below w (range_with_len a n) ≡ true
counting_below w a zero l = refl
counting_below w a (suc n) l = and_from (ltb a w) (below w (range_with_len (a + 1) n)) (lt-ltb a w (omega arith)) (counting_below w (a + 1) n (omega arith))

counting_distinct : (a n : ℕ) → distinct (range_with_len a n) ≡ true
counting_distinct a zero = refl
counting_distinct a (suc n) =
    and_from (not (stands a (range_with_len (a + 1) n))) (distinct (range_with_len (a + 1) n)) (not_from_false (stands a (range_with_len (a + 1) n)) (later a (a + 1) n (omega arith))) (counting_distinct (a + 1) n)
  where
    later : (x b m : ℕ) → x < b → stands x (range_with_len b m) ≡ false
    later x b zero l = refl
    later x b (suc m) l = or_from (eqb b x) (stands x (range_with_len (b + 1) m)) (ne_eqb b x (λ e. omega arith)) (later x (b + 1) m (omega arith))

-- at first every place is free
pub seated_first : (w : ℕ) → seated w (range_with_len 0 w) ≡ true
seated_first w =
    and_from (eqb (length (range_with_len 0 w)) w) (below w (range_with_len 0 w) && distinct (range_with_len 0 w)) (eq-eqb (length (range_with_len 0 w)) w (length-range_with_len 0 w))
    (and_from (below w (range_with_len 0 w)) (distinct (range_with_len 0 w)) (counting_below w 0 w (omega arith)) (counting_distinct 0 w))

below_front : (w : ℕ) (xs ys : List ℕ) → below w (xs ++ ys) ≡ true → below w xs ≡ true
below_front w [] ys h = refl
below_front w (x ∷ xs) ys h = let p = and_parts (ltb x w) (below w (xs ++ ys)) h in and_from (ltb x w) (below w xs) p.0 (below_front w xs ys p.1)

distinct_front : (xs ys : List ℕ) → distinct (xs ++ ys) ≡ true → distinct xs ≡ true
distinct_front [] ys h = refl
distinct_front (x ∷ xs) ys h =
    let p = and_parts (not (stands x (xs ++ ys))) (distinct (xs ++ ys)) h in
    let q = or_parts (stands x xs) (stands x ys) (sym (stands_append x xs ys) ∙ not-true (stands x (xs ++ ys)) p.0) in
    and_from (not (stands x xs)) (distinct xs) (not_from_false (stands x xs) q.0) (distinct_front xs ys p.1)

-- each kind's place is below the width, and its own
pub seated_kinds : (w : ℕ) (xs free : List ℕ) → seated w (xs ++ free) ≡ true → (below w xs ≡ true) × (distinct xs ≡ true)
seated_kinds w xs free h =
    let p = and_parts (eqb (length (xs ++ free)) w) (below w (xs ++ free) && distinct (xs ++ free)) h in
    let q = and_parts (below w (xs ++ free)) (distinct (xs ++ free)) p.1 in
    (below_front w xs free q.0, distinct_front xs free q.1)
