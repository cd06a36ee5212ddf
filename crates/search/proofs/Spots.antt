-- What a look into a row tells of the row.
use Rattle.std.proofs.Common.{◌≡◌, ℕ, zero, suc, ◌<◌, ◌≤◌, true, false, ◌&&◌, ltb, List, [], ◌∷◌, map, Result, Ok, Err, sym, refl, ap, ◌∙◌, ⊎_elim, arith}
use Rattle.std.specs.List.{insert}
use Rattle.std.specs.Result.{is_ok}
use Rattle.std.proofs.lemmas.Bool.{and_parts, and_from, lt-ltb, le-ltb, cases_lt, cond-true, cond-false}
use Rattle.descent.specs.Lines.{stands}
use Rattle.descent.specs.Order.{rising_from, filed}
use Rattle.descent.proofs.Lines.{stands-found, stands_none}
use Rattle.search.specs.Order.{Located}

-- what a look into a row tells of the number
pub here_stands : (xs : List ℕ) (x i : ℕ) → Located xs x (Ok i) → stands x xs ≡ true
here_stands xs x i h = stands-found x xs i h.0 h.1

pub gap_stands : (xs : List ℕ) (x i : ℕ) → Located xs x (Err i) → stands x xs ≡ false
gap_stands xs x i h =
    stands_none x xs
    (λ k l e. ⊎_elim (λ (lt : k < i). omega (arith, h.1 k lt)) (λ (ge : i ≤ k). omega (arith, h.2 k ge l)) (cases_lt k i))

pub ok_stands : (xs : List ℕ) (x : ℕ) (spot : Result ℕ ℕ) → Located xs x spot → is_ok spot ≡ stands x xs
ok_stands xs x (Ok i) h = sym (here_stands xs x i h)
ok_stands xs x (Err i) h = sym (gap_stands xs x i h)

pub rising_inserted : (a : ℕ) (xs : List ℕ) (x i : ℕ) → rising_from a xs ≡ true → a < x → Located xs x (Err i) → rising_from a (insert xs i x) ≡ true
rising_inserted a [] x zero r l h = and_from (ltb a x) true (lt-ltb a x l) refl
rising_inserted a [] x (suc i) r l h = absurd (omega (arith, h.0))
rising_inserted a (y ∷ ys) x zero r l h =
    let p = and_parts (ltb a y) (rising_from y ys) r in
    let lt : x < y = h.2 0 (omega arith) (omega arith) in
    and_from (ltb a x) (ltb x y && rising_from y ys) (lt-ltb a x l) (and_from (ltb x y) (rising_from y ys) (lt-ltb x y lt) p.1)
rising_inserted a (y ∷ ys) x (suc i) r l h =
    let p = and_parts (ltb a y) (rising_from y ys) r in
    let lt : y < x = h.1 0 (omega arith) in
    and_from (ltb a y) (rising_from y (insert ys i x)) p.0
    (rising_inserted y ys x i p.1 lt (omega (arith, h.0), (λ k m. h.1 (suc k) (omega arith)), λ k m n. h.2 (suc k) (omega arith) (omega arith)))

-- what goes into its gap is filed
pub gap_filed : {X : Type 0} (key : X → ℕ) (xs : List X) (x : X) (i : ℕ) → Located (map key xs) (key x) (Err i) → insert xs i x ≡ filed key x xs
gap_filed key [] x zero h = refl
gap_filed key [] x (suc i) h = absurd (omega (arith, h.0))
gap_filed key (y ∷ ys) x zero h =
    sym (cond-true (ltb (key x) (key y)) (x ∷ y ∷ ys) (y ∷ filed key x ys) (lt-ltb (key x) (key y) (h.2 0 (omega arith) (omega arith))))
gap_filed key (y ∷ ys) x (suc i) h =
    let low : key y < key x = h.1 0 (omega arith) in
    ap (λ zs. y ∷ zs) (gap_filed key ys x i (omega (arith, h.0), (λ k m. h.1 (suc k) (omega arith)), λ k m n. h.2 (suc k) (omega arith) (omega arith)))
    ∙ sym (cond-false (ltb (key x) (key y)) (x ∷ y ∷ ys) (y ∷ filed key x ys) (le-ltb (key x) (key y) (omega arith)))
