-- Rising rows of bounds, below any width.
use Rattle.std.specs.Prelude.{◌≡◌, ℕ, zero, suc, ◌+◌, ◌%◌, ◌<◌, ◌≤◌, Bool, true, cond, ◌&&◌, List, [], ◌∷◌, ◌++◌, length, take, drop, ◌==◌, nat_le, slice_index, slice_index_or, refl}
use Rattle.std.proofs.Common.{sym, ap, ◌∙◌, subst, ⊎_elim, arith}
use Rattle.std.proofs.lemmas.Bool.{leb-true, le-leb, lt-ltb, le-ltb, eqb-true, eq-eqb, and_parts, and_from, cases_lt}
use Rattle.packets.specs.Bounds.{rises, keeps_rule, count_below}

abbrev pub Rises : ℕ → ℕ → List ℕ → Type 0
Rises w low [] = Unit {0}
Rises w low (b ∷ bs) = (low ≤ b) × (b ≤ w) × Rises w (suc b) bs

-- each bound lies below n
abbrev pub Under : ℕ → List ℕ → Type 0
Under n [] = Unit {0}
Under n (b ∷ bs) = (b < n) × Under n bs

-- the rule as a test and as facts
pub rises_told : (w low : ℕ) (xs : List ℕ) → rises w low xs ≡ true → Rises w low xs
rises_told w low [] e = tt
rises_told w low (b ∷ bs) e =
    let from = and_parts (nat_le low b) (nat_le b w && rises w (suc b) bs) e in
    let to = and_parts (nat_le b w) (rises w (suc b) bs) from.1 in
    (leb-true low b from.0, leb-true b w to.0, rises_told w (suc b) bs to.1)

rises_tested : (w low : ℕ) (xs : List ℕ) → Rises w low xs → rises w low xs ≡ true
rises_tested w low [] r = refl
rises_tested w low (b ∷ bs) r =
    and_from (nat_le low b) (nat_le b w && rises w (suc b) bs) (le-leb low b r.0)
    (and_from (nat_le b w) (rises w (suc b) bs) (le-leb b w r.1) (rises_tested w (suc b) bs r.2))

pub rule_rises : (w : ℕ) (xs : List ℕ) → keeps_rule w xs ≡ true → Rises w 0 xs
rule_rises w xs e = rises_told w 0 xs (and_parts (length xs % 2 == 0) (rises w 0 xs) e).1

pub rule_even : (w : ℕ) (xs : List ℕ) → keeps_rule w xs ≡ true → length xs % 2 ≡ 0
rule_even w xs e = eqb-true (length xs % 2) 0 (and_parts (length xs % 2 == 0) (rises w 0 xs) e).0

pub rule_from : (w : ℕ) (xs : List ℕ) → length xs % 2 ≡ 0 → Rises w 0 xs → keeps_rule w xs ≡ true
rule_from w xs e r = and_from (length xs % 2 == 0) (rises w 0 xs) (eq-eqb (length xs % 2) 0 e) (rises_tested w 0 xs r)

pub rises_lower : (w low high : ℕ) (xs : List ℕ) → low ≤ high → Rises w high xs → Rises w low xs
rises_lower w low high [] h r = tt
rises_lower w low high (b ∷ bs) h r = (omega (arith, r.0), r.1, r.2)

pub rises-take : (w low i : ℕ) (xs : List ℕ) → Rises w low xs → Rises w low (take i xs)
rises-take w low zero xs r = tt
rises-take w low (suc i) [] r = tt
rises-take w low (suc i) (b ∷ bs) r = (r.0, r.1, rises-take w (suc b) i bs r.2)

pub rises_append : (w low n : ℕ) (xs ys : List ℕ) → low ≤ n → Rises w low xs → Under n xs → Rises w n ys → Rises w low (xs ++ ys)
rises_append w low n [] ys h r u s = rises_lower w low n ys h s
rises_append w low n (b ∷ bs) ys h r u s = (r.0, r.1, rises_append w (suc b) n bs ys u.0 r.2 u.1 s)

-- place by place
pub rises_low : (w low : ℕ) (xs : List ℕ) (k d : ℕ) → Rises w low xs → k < length xs → low ≤ slice_index_or xs k d
rises_low w low [] k d r h = absurd (omega arith)
rises_low w low (b ∷ bs) zero d r h = r.0
rises_low w low (b ∷ bs) (suc k) d r h = omega (arith, r.0, rises_low w (suc b) bs k d r.2 (omega arith))

pub rises_top : (w low : ℕ) (xs : List ℕ) (k : ℕ) → Rises w low xs → k < length xs → slice_index xs k ≤ w
rises_top w low [] k r h = absurd (omega arith)
rises_top w low (b ∷ bs) zero r h = r.1
rises_top w low (b ∷ bs) (suc k) r h = rises_top w (suc b) bs k r.2 (omega arith)

pub rises_next : (w low : ℕ) (xs : List ℕ) (k : ℕ) → Rises w low xs → suc k < length xs → slice_index xs k < slice_index xs (suc k)
rises_next w low [] k r h = absurd (omega arith)
rises_next w low (b ∷ bs) zero r h = rises_low w (suc b) bs 0 0 r.2 (omega arith)
rises_next w low (b ∷ bs) (suc k) r h = rises_next w (suc b) bs k r.2 (omega arith)

-- each number from low to w is one bound at most
rises_few : (w low : ℕ) (xs : List ℕ) → low ≤ suc w → Rises w low xs → length xs + low ≤ suc w
rises_few w low [] h r = omega arith
rises_few w low (b ∷ bs) h r = omega (arith, r.0, rises_few w (suc b) bs (omega (arith, r.1)) r.2)

-- an even row up to an even width has no more bounds than the width
pub even_fits : (w : ℕ) (xs : List ℕ) → w % 2 ≡ 0 → length xs % 2 ≡ 0 → Rises w 0 xs → length xs ≤ w
even_fits w xs e f r = omega (arith, rises_few w 0 xs (omega arith) r)

-- where a number cuts the row: the i bounds before lie below n, and the others rise from n on
pub record Cut (w : ℕ) (xs : List ℕ) (i n : ℕ) : Type 0 where
  pub short : i ≤ length xs
  pub low : Under n (take i xs)
  pub high : Rises w n (drop i xs)

pub cut : (w low n : ℕ) (xs : List ℕ) → Rises w low xs → Cut w xs (count_below n xs) n
cut w low n [] r = record { short = omega arith; low = tt; high = tt }
cut w low n (b ∷ bs) r = ⊎_elim
    (λ (h : b < n).
    let rest = cut w (suc b) n bs r.2 in
    subst (λ (t : Bool). Cut w (b ∷ bs) (cond t (suc (count_below n bs)) 0) n) (sym (lt-ltb b n h))
    (record { short = omega (arith, rest.short); low = (h, rest.low); high = rest.high }))
    (λ (h : n ≤ b).
    subst (λ (t : Bool). Cut w (b ∷ bs) (cond t (suc (count_below n bs)) 0) n) (sym (le-ltb b n h))
    (record { short = omega arith; low = tt; high = (h, r.1, r.2) }))
    (cases_lt b n)

-- the two bounds beside the cut tell where it is
pub cut_here : (w low n : ℕ) (xs : List ℕ) (i : ℕ) → Rises w low xs → i ≤ length xs → ((k : ℕ) → suc k ≡ i → slice_index xs k < n)
    → (i < length xs → n ≤ slice_index xs i) → count_below n xs ≡ i
cut_here w low n [] i r h f g = omega arith
cut_here w low n (b ∷ bs) zero r h f g = ap (λ (t : Bool). cond t (suc (count_below n bs)) 0) (le-ltb b n (g (omega arith)))
cut_here w low n (b ∷ bs) (suc i) r h f g =
    ap (λ (t : Bool). cond t (suc (count_below n bs)) 0) (lt-ltb b n (first i (omega arith) (f i refl)))
    ∙ ap suc (cut_here w (suc b) n bs i r.2 (omega arith) (λ k e. f (suc k) (ap suc e)) (λ l. g (omega arith)))
  where
    first : (k : ℕ) → k ≤ length bs → slice_index (b ∷ bs) k < n → b < n
    first zero l h = h
    first (suc k) l h = omega (arith, rises_low w (suc b) bs k 0 r.2 (omega arith))

-- and the cut tells of the bounds beside it
pub cut-before : (w n i k : ℕ) (xs : List ℕ) → Cut w xs i n → k < i → slice_index xs k < n
cut-before w n i k xs c h = before i k xs c.low h (omega (arith, c.short))
  where
    before : (i k : ℕ) (xs : List ℕ) → Under n (take i xs) → k < i → k < length xs → slice_index xs k < n
    before i k [] u h l = absurd (omega arith)
    before zero k (b ∷ bs) u h l = absurd (omega arith)
    before (suc i) zero (b ∷ bs) u h l = u.0
    before (suc i) (suc k) (b ∷ bs) u h l = before i k bs u.1 (omega arith) (omega arith)

pub cut-after : (w n i : ℕ) (xs : List ℕ) → Cut w xs i n → i < length xs → n ≤ slice_index xs i
cut-after w n i xs c h = after i xs c.high h
  where
    after : (i : ℕ) (xs : List ℕ) → Rises w n (drop i xs) → i < length xs → n ≤ slice_index xs i
    after i [] r h = absurd (omega arith)
    after zero (b ∷ bs) r h = r.0
    after (suc i) (b ∷ bs) r h = after i bs r (omega arith)
