-- Rows where one is put in or taken out, or where a test keeps some.
use Rattle.std.proofs.Common.{◌≡◌, ℕ, zero, suc, ◌<◌, Bool, true, false, not, ◌&&◌, ◌||◌, eqb, ltb, List, [], ◌∷◌, ◌++◌, map, length, get_or, take, drop, filter, sym, refl, ap, ◌∙◌, subst, ap₂, ⊎_elim, arith}
use Rattle.std.specs.List.{insert, remove}
use Rattle.std.proofs.lemmas.List.{map-append, take-map, drop-map, take-append-drop}
use Rattle.std.proofs.lemmas.Bool.{and_parts, and_from, or_left, or_right, or_cases, eqb-true, eq-eqb, ne_eqb, ltb-true, lt-ltb, cases_eq, cond-true, cond-false, true≢false, false≢true}
use Rattle.std.proofs.lemmas.Bool.Decides.{nat_tests}
use Rattle.descent.specs.declared.line.Line.{Line}
use Rattle.descent.specs.Lines.{stands, mentioned}
use Rattle.descent.specs.Proper.{below, distinct, joins, joining}
use Rattle.descent.proofs.Lines.{stands_append}

pub map_inserted : {X Y : Type 0} (f : X → Y) (xs : List X) (i : ℕ) (x : X) → map f (insert xs i x) ≡ insert (map f xs) i (f x)
map_inserted f xs i x =
    map-append f (take i xs) (x ∷ drop i xs)
    ∙ sym (ap₂ (λ us vs. us ++ f x ∷ vs) (take-map f i xs) (drop-map f i xs))

pub map_removed : {X Y : Type 0} (f : X → Y) (xs : List X) (i : ℕ) → map f (remove xs i) ≡ remove (map f xs) i
map_removed f xs i =
    map-append f (take i xs) (drop (suc i) xs) ∙ sym (ap₂ (λ us vs. us ++ vs) (take-map f i xs) (drop-map f (suc i) xs))

-- the one element that fails a test is taken out
pub left_out : {X : Type 0} (test : X → Bool) (xs : List X) (i : ℕ) → i < length xs → ((d : X) → test (get_or xs i d) ≡ false) → ((k : ℕ) (d : X) → k < length xs → (k ≡ i → ⊥) → test (get_or xs k d) ≡ true) → remove xs i ≡ filter test xs
left_out test [] i l out keep = absurd (omega arith)
left_out {X = X} test (y ∷ ys) zero l out keep =
    sym (cond-false (test y) (y ∷ filter test ys) (filter test ys) (out y) ∙ all-kept ys (λ k d m. keep (suc k) d (omega arith) (λ e. omega arith)))
  where
    all-kept : (zs : List X) → ((k : ℕ) (d : X) → k < length zs → test (get_or zs k d) ≡ true) → filter test zs ≡ zs
    all-kept [] h = refl
    all-kept (z ∷ zs) h =
        cond-true (test z) (z ∷ filter test zs) (filter test zs) (h 0 z (omega arith)) ∙ ap (λ us. z ∷ us) (all-kept zs (λ k d m. h (suc k) d (omega arith)))
left_out test (y ∷ ys) (suc i) l out keep =
    ap (λ zs. y ∷ zs) (left_out test ys i (omega arith) out (λ k d m ne. keep (suc k) d (omega arith) (λ e. ne (omega arith))))
    ∙ sym (cond-true (test y) (y ∷ filter test ys) (filter test ys) (keep 0 y (omega arith) (λ e. omega arith)))

-- a number in the middle of a row may as well stand first
pub stands_middle : (xs ys : List ℕ) (y x : ℕ) → stands x (xs ++ y ∷ ys) ≡ stands x (y ∷ (xs ++ ys))
stands_middle xs ys y x =
    stands_append x xs (y ∷ ys) ∙ or_swap (stands x xs) (eqb y x) (stands x ys) ∙ sym (ap (λ (b : Bool). eqb y x || b) (stands_append x xs ys))
  where
    or_swap : (a b c : Bool) → (a || (b || c)) ≡ (b || (a || c))
    or_swap true true c = refl
    or_swap true false c = refl
    or_swap false b c = refl

pub below_middle : (w : ℕ) (xs ys : List ℕ) (y : ℕ) → below w (xs ++ y ∷ ys) ≡ below w (y ∷ (xs ++ ys))
below_middle w [] ys y = refl
below_middle w (x ∷ xs) ys y = ap (λ (b : Bool). ltb x w && b) (below_middle w xs ys y) ∙ and-swap (ltb x w) (ltb y w) (below w (xs ++ ys))
  where
    and-swap : (a b c : Bool) → (a && (b && c)) ≡ (b && (a && c))
    and-swap true b c = refl
    and-swap false true c = refl
    and-swap false false c = refl

pub distinct_middle : (xs ys : List ℕ) (y : ℕ) → distinct (xs ++ y ∷ ys) ≡ distinct (y ∷ (xs ++ ys))
distinct_middle [] ys y = refl
distinct_middle (x ∷ xs) ys y =
    ap₂ (λ (a b : Bool). not a && b) (stands_middle xs ys y x) (distinct_middle xs ys y)
    ∙ regroup (eqb y x) (eqb x y) (stands x (xs ++ ys)) (stands y (xs ++ ys)) (distinct (xs ++ ys)) (eqb-sym y x)
  where
    eqb-sym : (a b : ℕ) → eqb a b ≡ eqb b a
    eqb-sym a b =
        ⊎_elim (λ (e : a ≡ b). eq-eqb a b e ∙ sym (eq-eqb b a (sym e))) (λ ne. ne_eqb a b ne ∙ sym (ne_eqb b a (λ e. ne (sym e))))
        (cases_eq a b)

    regroup : (a b s t d : Bool) → a ≡ b → (not (a || s) && (not t && d)) ≡ (not (b || t) && (not s && d))
    regroup true true s t d e = refl
    regroup true false s t d e = absurd (true≢false e)
    regroup false true s t d e = absurd (false≢true e)
    regroup false false true true d e = refl
    regroup false false true false d e = refl
    regroup false false false true d e = refl
    regroup false false false false d e = refl

-- a row with one number more
module _ (xs : List ℕ) (i x : ℕ) where
  together : take i xs ++ drop i xs ≡ xs
  together = take-append-drop i xs

  pub stands_inserted : (y : ℕ) → stands y (insert xs i x) ≡ (eqb x y || stands y xs)
  stands_inserted y = stands_middle (take i xs) (drop i xs) x y ∙ ap (λ (ys : List ℕ). stands y (x ∷ ys)) together

  pub below_inserted : (w : ℕ) → x < w → below w xs ≡ true → below w (insert xs i x) ≡ true
  below_inserted w l h =
      below_middle w (take i xs) (drop i xs) x ∙ ap (λ (ys : List ℕ). below w (x ∷ ys)) together ∙ and_from (ltb x w) (below w xs) (lt-ltb x w l) h

-- a row with one number less
pub below_removed : (w : ℕ) (xs : List ℕ) (i : ℕ) → below w xs ≡ true → below w (remove xs i) ≡ true
below_removed w [] zero h = refl
below_removed w [] (suc i) h = refl
below_removed w (x ∷ xs) zero h = (and_parts (ltb x w) (below w xs) h).1
below_removed w (x ∷ xs) (suc i) h =
    let p = and_parts (ltb x w) (below w xs) h in and_from (ltb x w) (below w (remove xs i)) p.0 (below_removed w xs i p.1)

-- lines stay between standing kinds where no kind that they have goes
pub joining_kept : (ks ks' : List ℕ) (ls : List Line) → ((y : ℕ) → stands y ks ≡ true → mentioned y ls ≡ true → stands y ks' ≡ true) → joining ks ls ≡ true → joining ks' ls ≡ true
joining_kept ks ks' [] keep h = refl
joining_kept ks ks' (l ∷ ls) keep h =
    let p = and_parts (stands l.child ks && (stands l.parent ks && not (eqb l.child l.parent))) (joining ks ls) h in
    let q = and_parts (stands l.child ks) (stands l.parent ks && not (eqb l.child l.parent)) p.0 in
    let r = and_parts (stands l.parent ks) (not (eqb l.child l.parent)) q.1 in
    let c = keep l.child q.0 (or_left (eqb l.child l.child || eqb l.parent l.child) (mentioned l.child ls)
    (or_left (eqb l.child l.child) (eqb l.parent l.child) (eq-eqb l.child l.child refl))) in
    let u = keep l.parent r.0 (or_left (eqb l.child l.parent || eqb l.parent l.parent) (mentioned l.parent ls)
    (or_right (eqb l.child l.parent) (eqb l.parent l.parent) (eq-eqb l.parent l.parent refl))) in
    and_from (stands l.child ks' && (stands l.parent ks' && not (eqb l.child l.parent))) (joining ks' ls)
    (and_from (stands l.child ks') (stands l.parent ks' && not (eqb l.child l.parent)) c (and_from (stands l.parent ks') (not (eqb l.child l.parent)) u r.1))
    (joining_kept ks ks' ls (λ y s m. keep y s (or_right (eqb l.child y || eqb l.parent y) (mentioned y ls) m)) p.1)

-- of the numbers that stand in a row, those that pass the test are kept
pub kept_stands : (test : ℕ → Bool) (k : ℕ) (xs : List ℕ) → stands k (filter test xs) ≡ (stands k xs && test k)
kept_stands test k [] = refl
kept_stands test k (x ∷ xs) = let later = kept_stands test k xs in grind (arith, nat_tests)

-- what passes a test stays in the row that the test keeps
pub stands_kept : (test : ℕ → Bool) (xs : List ℕ) (y : ℕ) → test y ≡ true → stands y xs ≡ true → stands y (filter test xs) ≡ true
stands_kept test xs y t s = kept_stands test y xs ∙ and_from (stands y xs) (test y) s t

-- a standing kind has a serial in range
pub stands-below : (w : ℕ) (ks : List ℕ) (k : ℕ) → below w ks ≡ true → stands k ks ≡ true → k < w
stands-below w [] k b s = absurd (false≢true s)
stands-below w (x ∷ xs) k b s =
    let p = and_parts (ltb x w) (below w xs) b in
    ⊎_elim (λ e. subst (λ (z : ℕ). z < w) (eqb-true x k e) (ltb-true x w p.0)) (λ e. stands-below w xs k p.1 e) (or_cases (eqb x k) (stands k xs) s)

pub joining_inserted : (ks : List ℕ) (ls : List Line) (i : ℕ) (l : Line) → joins ks l ≡ true → joining ks ls ≡ true → joining ks (insert ls i l) ≡ true
joining_inserted ks [] zero l p h = and_from (joins ks l) true p refl
joining_inserted ks [] (suc i) l p h = and_from (joins ks l) true p refl
joining_inserted ks (m ∷ ms) zero l p h = and_from (joins ks l) (joining ks (m ∷ ms)) p h
joining_inserted ks (m ∷ ms) (suc i) l p h =
    let q = and_parts (joins ks m) (joining ks ms) h in
    and_from (joins ks m) (joining ks (insert ms i l)) q.0 (joining_inserted ks ms i l p q.1)

pub joining_removed : (ks : List ℕ) (ls : List Line) (i : ℕ) → joining ks ls ≡ true → joining ks (remove ls i) ≡ true
joining_removed ks [] zero h = refl
joining_removed ks [] (suc i) h = refl
joining_removed ks (m ∷ ms) zero h = (and_parts (joins ks m) (joining ks ms) h).1
joining_removed ks (m ∷ ms) (suc i) h =
    let q = and_parts (joins ks m) (joining ks ms) h in
    and_from (joins ks m) (joining ks (remove ms i)) q.0 (joining_removed ks ms i q.1)

-- the ends of lines are kinds, and their serials in range
module _ (w : ℕ) (ks : List ℕ) (few : below w ks ≡ true) where
  pub children_below : (ls : List Line) → joining ks ls ≡ true → below w (map (λ l. l.child) ls) ≡ true
  children_below [] h = refl
  children_below (l ∷ ls) h =
      let p = and_parts (joins ks l) (joining ks ls) h in
      let q = and_parts (stands l.child ks) (stands l.parent ks && not (eqb l.child l.parent)) p.0 in
      and_from (ltb l.child w) (below w (map (λ m. m.child) ls)) (lt-ltb l.child w (stands-below w ks l.child few q.0)) (children_below ls p.1)

  pub parents_below : (ls : List Line) → joining ks ls ≡ true → below w (map (λ l. l.parent) ls) ≡ true
  parents_below [] h = refl
  parents_below (l ∷ ls) h =
      let p = and_parts (joins ks l) (joining ks ls) h in
      let q = and_parts (stands l.child ks) (stands l.parent ks && not (eqb l.child l.parent)) p.0 in
      let r = and_parts (stands l.parent ks) (not (eqb l.child l.parent)) q.1 in
      and_from (ltb l.parent w) (below w (map (λ m. m.parent) ls)) (lt-ltb l.parent w (stands-below w ks l.parent few r.0)) (parents_below ls p.1)

-- where no kind stands, no line does
pub no_lines : (ks : List ℕ) (ls : List Line) → ks ≡ [] → joining ks ls ≡ true → ls ≡ []
no_lines ks [] e j = refl
no_lines ks (l ∷ ls) e j =
    let p = and_parts (joins ks l) (joining ks ls) j in
    absurd (false≢true (sym (ap (λ (us : List ℕ). joins us l) e) ∙ p.0))
