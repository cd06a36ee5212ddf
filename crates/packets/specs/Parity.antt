-- A place lies in a packet exactly where the number of bounds that are not above it is odd.
use Rattle.std.specs.Prelude.{◌≡◌, ℕ, suc, ◌%◌, ◌<◌, ◌≤◌, Bool, true, false, cond, not, List, [], ◌∷◌, ◌++◌, length, take, drop, ◌==◌, nat_le, refl}
use Rattle.std.proofs.Common.{sym, ap, ap₂, ◌∙◌, subst, ⊎_elim, arith}
use Rattle.std.proofs.lemmas.List.{length-take-le, take-append-drop}
use Rattle.std.proofs.lemmas.Bool.{cases_order, both_ways}
use Rattle.std.proofs.lemmas.Bool.Decides.{nat_tests}
use Rattle.packets.specs.Bounds.{inside, keeps_rule, count_below}
use Rattle.packets.specs.Rising.{Rises, Under, Cut, cut, rule_rises, rule_even}

abbrev pub differ : Bool → Bool → Bool
differ a b = cond a (not b) b

abbrev pub odd : ℕ → Bool
odd n = n % 2 == 1

abbrev pub parity : List ℕ → ℕ → Bool
parity [] p = false
parity (b ∷ bs) p = differ (nat_le b p) (parity bs p)

pub parity_append : (xs ys : List ℕ) (p : ℕ) → parity (xs ++ ys) p ≡ differ (parity xs p) (parity ys p)
parity_append [] ys p = refl
parity_append (b ∷ bs) ys p = let rest = parity_append bs ys p in grind (arith, nat_tests)

-- past the last bound their number decides, and before the first nothing lies inside
parity_past : (n : ℕ) (xs : List ℕ) (p : ℕ) → Under n xs → n ≤ suc p → parity xs p ≡ odd (length xs)
parity_past n [] p u h = refl
parity_past n (b ∷ bs) p u h =
    let rest = parity_past n bs p u.1 h in
    let low : b ≤ p = omega (arith, u.0) in
    grind (arith, nat_tests)

pub parity-before : (w low : ℕ) (xs : List ℕ) (p : ℕ) → Rises w low xs → p < low → parity xs p ≡ false
parity-before w low [] p r h = refl
parity-before w low (b ∷ bs) p r h =
    let high : p < b = omega (arith, r.0) in
    let rest = parity-before w (suc b) bs p r.2 (omega arith) in
    grind (arith, nat_tests)

-- what a cut tells of the two parts
module _ (w : ℕ) (xs : List ℕ) (i n p : ℕ) (c : Cut w xs i n) where
  pub parity_parts : parity xs p ≡ differ (parity (take i xs) p) (parity (drop i xs) p)
  parity_parts = ap (λ ys. parity ys p) (sym (take-append-drop i xs)) ∙ parity_append (take i xs) (drop i xs) p

  pub parity_front : n ≤ suc p → parity (take i xs) p ≡ odd i
  parity_front h = parity_past n (take i xs) p c.low h ∙ ap odd (length-take-le i xs c.short)

  pub parity-rest : p < n → parity (drop i xs) p ≡ false
  parity-rest = parity-before w n (drop i xs) p c.high

pub parity_count : (w : ℕ) (xs : List ℕ) (p : ℕ) → Rises w 0 xs → parity xs p ≡ odd (count_below (suc p) xs)
parity_count w xs p r =
    let i = count_below (suc p) xs in
    let c = cut w 0 (suc p) xs r in
    let front = parity_front w xs i (suc p) p c (omega arith) in
    let rest = parity-rest w xs i (suc p) p c (omega arith) in
    parity_parts w xs i (suc p) p c ∙ grind (arith, nat_tests)

inside-parity : (w low : ℕ) (xs : List ℕ) (p : ℕ) → Rises w low xs → length xs % 2 ≡ 0 → inside xs p ≡ parity xs p
inside-parity w low [] p r e = refl
inside-parity w low (l ∷ []) p r e = absurd (omega arith)
inside-parity w low (l ∷ u ∷ bs) p r e =
    let rest = inside-parity w (suc u) bs p r.2.2 (omega arith) in
    let up : l < u = omega (arith, r.2.0) in
    let before : p < suc u → parity bs p ≡ false = parity-before w (suc u) bs p r.2.2 in
    grind (arith, nat_tests)

pub inside-odd : (w : ℕ) (xs : List ℕ) (p : ℕ) → keeps_rule w xs ≡ true → inside xs p ≡ parity xs p
inside-odd w xs p e = inside-parity w 0 xs p (rule_rises w xs e) (rule_even w xs e)

-- one set, one row
first_in : (w b : ℕ) (bs : List ℕ) → Rises w (suc b) bs → parity (b ∷ bs) b ≡ true
first_in w b bs r = let rest = parity-before w (suc b) bs b r (omega arith) in grind (arith, nat_tests)

first_apart : (w b c : ℕ) (bs cs : List ℕ) → b < c → b < w → Rises w (suc b) bs → Rises w c (c ∷ cs)
    → ((p : ℕ) → p < w → parity (b ∷ bs) p ≡ parity (c ∷ cs) p) → ⊥
first_apart w b c bs cs l h r s same =
    both_ways (parity (b ∷ bs) b) (same b h ∙ parity-before w c (c ∷ cs) b s l) (first_in w b bs r)

not_none : (w low b c : ℕ) (bs : List ℕ) → Rises w low (b ∷ c ∷ bs) → ((p : ℕ) → p < w → parity (b ∷ c ∷ bs) p ≡ false) → ⊥
not_none w low b c bs r none = both_ways (parity (b ∷ c ∷ bs) b) (none b (omega (arith, r.2.0, r.2.1))) (first_in w b (c ∷ bs) r.2)

differ_same : (t a b : Bool) → differ t a ≡ differ t b → a ≡ b
differ_same true a b e = grind (arith, nat_tests)
differ_same false a b e = e

pub one_row : (w low : ℕ) (xs ys : List ℕ) → Rises w low xs → Rises w low ys → length xs % 2 ≡ length ys % 2
    → ((p : ℕ) → p < w → parity xs p ≡ parity ys p) → xs ≡ ys
one_row w low [] [] r s e same = refl
one_row w low [] (c ∷ []) r s e same = absurd (omega arith)
one_row w low [] (c ∷ d ∷ ys) r s e same = absurd (not_none w low c d ys s (λ p h. sym (same p h)))
one_row w low (b ∷ []) [] r s e same = absurd (omega arith)
one_row w low (b ∷ d ∷ xs) [] r s e same = absurd (not_none w low b d xs r same)
one_row w low (b ∷ xs) (c ∷ ys) r s e same = ⊎_elim
    (λ (q : b ≡ c).
    ap₂ (λ (x : ℕ) (l : List ℕ). x ∷ l) q
    (one_row w (suc b) xs ys r.2 (subst (λ (x : ℕ). Rises w (suc x) ys) (sym q) s.2) (omega arith)
    (λ p h. differ_same (nat_le b p) (parity xs p) (parity ys p) (same p h ∙ ap (λ (x : ℕ). differ (nat_le x p) (parity ys p)) (sym q)))))
    (⊎_elim
    (λ (l : b < c). absurd (first_apart w b c xs ys l (omega (arith, s.1)) r.2 (omega arith, s.1, s.2) same))
    (λ (l : c < b). absurd (first_apart w c b ys xs l (omega (arith, r.1)) s.2 (omega arith, r.1, r.2) (λ p h. sym (same p h)))))
    (cases_order b c)
