-- Rising rows: what is left of one rises, and how much of one another can hold.
use Rattle.std.proofs.Common.{◌≡◌, ℕ, zero, suc, ◌<◌, ◌≤◌, Bool, true, eqb, ltb, List, [], ◌∷◌, length, take, filter, refl, ⊎_elim, arith}
use Rattle.std.specs.List.{remove, AllByRecursion as All}
use Rattle.std.proofs.lemmas.Bool.{and_parts, and_from, or_cases, ltb-true, lt-ltb, eqb-true, cond_both, false≢true}
use Rattle.descent.specs.Lines.{stands}
use Rattle.descent.specs.Order.{rising_from}

pub rising_lower : (a b : ℕ) (xs : List ℕ) → a ≤ b → rising_from b xs ≡ true → rising_from a xs ≡ true
rising_lower a b [] le r = refl
rising_lower a b (x ∷ xs) le r =
    let p = and_parts (ltb b x) (rising_from x xs) r in
    let lt = ltb-true b x p.0 in
    and_from (ltb a x) (rising_from x xs) (lt-ltb a x (omega arith)) p.1

pub rising_removed : (a : ℕ) (xs : List ℕ) (i : ℕ) → rising_from a xs ≡ true → rising_from a (remove xs i) ≡ true
rising_removed a [] zero r = refl
rising_removed a [] (suc i) r = refl
rising_removed a (x ∷ xs) zero r =
    let p = and_parts (ltb a x) (rising_from x xs) r in
    let lt = ltb-true a x p.0 in
    rising_lower a x xs (omega arith) p.1
rising_removed a (x ∷ xs) (suc i) r =
    let p = and_parts (ltb a x) (rising_from x xs) r in
    and_from (ltb a x) (rising_from x (remove xs i)) p.0 (rising_removed x xs i p.1)

pub rising_kept : (test : ℕ → Bool) (a : ℕ) (xs : List ℕ) → rising_from a xs ≡ true → rising_from a (filter test xs) ≡ true
rising_kept test a [] r = refl
rising_kept test a (x ∷ xs) r =
    let p = and_parts (ltb a x) (rising_from x xs) r in
    let k = rising_kept test x xs p.1 in
    let l = ltb-true a x p.0 in
    cond_both (test x) (x ∷ filter test xs) (filter test xs) (λ zs. rising_from a zs ≡ true)
    (λ _. and_from (ltb a x) (rising_from x (filter test xs)) p.0 k) (λ _. rising_lower a x (filter test xs) (omega arith) k)

pub rising-take : (a n : ℕ) (xs : List ℕ) → rising_from a xs ≡ true → rising_from a (take n xs) ≡ true
rising-take a zero xs r = refl
rising-take a (suc n) [] r = refl
rising-take a (suc n) (x ∷ xs) r = let p = and_parts (ltb a x) (rising_from x xs) r in and_from (ltb a x) (rising_from x (take n xs)) p.0 (rising-take x n xs p.1)

pub stands_above : (a : ℕ) (xs : List ℕ) (x : ℕ) → rising_from a xs ≡ true → stands x xs ≡ true → a < x
stands_above a [] x r s = absurd (false≢true s)
stands_above a (y ∷ ys) x r s =
    let p = and_parts (ltb a y) (rising_from y ys) r in
    let l = ltb-true a y p.0 in
    ⊎_elim (λ e. let q = eqb-true y x e in omega arith) (λ e. let m = stands_above y ys x p.1 e in omega arith) (or_cases (eqb y x) (stands x ys) s)

-- numbers above the first of a row stand in the rest of it
past_first : (k : ℕ) (ks xs : List ℕ) → rising_from k xs ≡ true → All (λ x. stands x (k ∷ ks) ≡ true) xs → All (λ x. stands x ks ≡ true) xs
past_first k ks [] r h = tt
past_first k ks (x ∷ xs) r h =
    let p = and_parts (ltb k x) (rising_from x xs) r in
    let l = ltb-true k x p.0 in (
      ⊎_elim (λ e. let q = eqb-true k x e in absurd (omega arith)) (λ e. e) (or_cases (eqb k x) (stands x ks) h.0),
      past_first k ks xs (rising_lower k x xs (omega arith) p.1) h.1,
    )

pub rising_fits : (a b : ℕ) (xs ks : List ℕ) → rising_from a xs ≡ true → rising_from b ks ≡ true → All (λ x. stands x ks ≡ true) xs → length xs ≤ length ks
rising_fits a b [] ks r q h = omega arith
rising_fits a b (x ∷ xs) [] r q h = absurd (false≢true h.0)
rising_fits a b (x ∷ xs) (k ∷ ks) r q h =
    let p = and_parts (ltb a x) (rising_from x xs) r in
    let u = and_parts (ltb b k) (rising_from k ks) q in
    ⊎_elim
    (λ (e : eqb k x ≡ true).
    let s = eqb-true k x e in
    let rest = rising_fits x k xs ks p.1 u.1 (past_first k ks xs (rising_lower k x xs (omega arith) p.1) h.1) in
    omega arith)
    (λ (e : stands x ks ≡ true).
    let l = stands_above k ks x u.1 e in
    let all : rising_from k (x ∷ xs) ≡ true = and_from (ltb k x) (rising_from x xs) (lt-ltb k x l) p.1 in
    let rest = rising_fits k k (x ∷ xs) ks all u.1 (past_first k ks (x ∷ xs) all h) in
    omega arith)
    (or_cases (eqb k x) (stands x ks) h.0)
