-- The complement of a row of bounds: one at 0 and one at the width come or go.
use Rattle.std.proofs.Common.{◌≡◌, ℕ, zero, suc, ◌+◌, ◌-◌, ◌%◌, ◌<◌, ◌≤◌, Bool, true, false, not, ◌&&◌, eqb, leb, List, [], ◌∷◌, ◌++◌, length, take, drop, sym, ap, ◌∙◌, subst, ap₂, ⊎_elim, arith}
use Rattle.std.proofs.lemmas.List.{append_assoc, drop-drop, drop-take, length-append, length-drop, length-take-le, take-append-drop}
use Rattle.std.proofs.lemmas.Bool.{cases_lt}
use Rattle.std.proofs.lemmas.Bool.Decides.{nat_tests}
use Rattle.packets.specs.Bounds.{inside, keeps_rule}
use Rattle.packets.specs.Parity.{differ, parity, parity_append, parity_parts, parity_front, parity-rest, inside-odd}
use Rattle.packets.specs.Rising.{Rises, Under, Cut, cut-before, cut-after, rises_append, rises_next, rises-take, rises_top, rule_rises, rule_even, rule_from, even_fits}
use Rattle.packets.proofs.Splice.{only, size, only_length, only_parity, rises_only}

under_drop : (n i : ℕ) (xs : List ℕ) → Under n xs → Under n (drop i xs)
under_drop n zero xs u = u
under_drop n (suc i) [] u = tt
under_drop n (suc i) (b ∷ bs) u = under_drop n i bs u.1

rises_one : (w b : ℕ) (t : Bool) → b ≤ w → Rises w b (only t b)
rises_one w b true h = (omega arith, h, tt)
rises_one w b false h = tt

-- i bounds lie below 1, and j below the width
module _ (w : ℕ) (xs : List ℕ) (i j : ℕ) (some : 0 < w) (rule : keeps_rule w xs ≡ true) (low : Cut w xs i 1) (high : Cut w xs j w) where
  -- whether a bound is wanted at either end
  abbrev a : Bool
  a = eqb i 0

  abbrev z : Bool
  z = eqb j (length xs)

  abbrev middle : List ℕ
  middle = take (j - i) (drop i xs)

  abbrev turned : List ℕ
  turned = only a 0 ++ (middle ++ only z w)

  rising : Rises w 0 xs
  rising = rule_rises w xs rule

  pub turn_order : i ≤ j
  turn_order = ⊎_elim
      (λ (h : j < i). absurd (omega (arith, cut-before w 1 i j xs low h, cut-after w w j xs high (omega (arith, low.short)))))
      (λ (h : i ≤ j). h)
      (cases_lt j i)

  one_low : i ≤ 1
  one_low = ⊎_elim
      (λ (h : 1 < i). absurd (omega (arith, cut-before w 1 i 1 xs low h, rises_next w 0 xs 0 rising (omega (arith, low.short)))))
      (λ (h : i ≤ 1). h)
      (cases_lt 1 i)

  one_high : length xs ≤ suc j
  one_high = ⊎_elim
      (λ (h : suc j < length xs).
      absurd (omega (arith, cut-after w w j xs high (omega arith), rises_next w 0 xs j rising h, rises_top w 0 xs (suc j) rising h)))
      (λ (h : length xs ≤ suc j). h)
      (cases_lt (suc j) (length xs))

  step : i + (j - i) ≡ j
  step = let order = turn_order in omega arith

  turn_parity : (p : ℕ) → p < w → parity turned p ≡ not (parity xs p)
  turn_parity p h =
      let new : parity turned p ≡ differ (a && leb 0 p) (differ (parity middle p) (z && leb w p)) =
      parity_append (only a 0) (middle ++ only z w) p
      ∙ ap₂ differ (only_parity a 0 p) (parity_append middle (only z w) p ∙ ap (differ (parity middle p)) (only_parity z w p)) in
      let old = parity_parts w xs i 1 p low in
      let front = parity_front w xs i 1 p low (omega arith) in
      let rest : parity (drop i xs) p ≡ differ (parity middle p) (parity (drop j xs) p) =
      ap (λ ys. parity ys p) (sym (take-append-drop (j - i) (drop i xs))) ∙ parity_append middle (drop (j - i) (drop i xs)) p
      ∙ ap (λ ys. differ (parity middle p) (parity ys p)) (drop-drop (j - i) i xs ∙ ap (λ (k : ℕ). drop k xs) step) in
      let none = parity-rest w xs j w p high h in
      let few = one_low in
      new ∙ grind (arith, nat_tests)

  turn_rises : Rises w 0 turned
  turn_rises =
      rises_only w 0 a (middle ++ only z w) (omega arith)
      (rises_append w 1 w middle (only z w) some (rises-take w 1 (j - i) (drop i xs) low.high)
      (subst (Under w) (drop-take i (j - i) xs) (under_drop w i (take (i + (j - i)) xs) (subst (λ (k : ℕ). Under w (take k xs)) (sym step) high.low)))
      (rises_one w w z (omega arith)))

  turn_length : length turned ≡ size a + ((j - i) + size z)
  turn_length =
      let part : length middle ≡ j - i = length-take-le (j - i) (drop i xs) (omega (arith, length-drop i xs, high.short)) in
      length-append (only a 0) (middle ++ only z w) ∙ ap₂ ◌+◌ (only_length a 0) (length-append middle (only z w) ∙ ap₂ ◌+◌ part (only_length z w))

  turn_even : length turned % 2 ≡ 0
  turn_even =
      let whole = turn_length in
      let even = rule_even w xs rule in
      let order = turn_order in
      let few = one_low in
      let last = one_high in
      let short = high.short in
      grind (arith, nat_tests)

  pub turn_room : w % 2 ≡ 0 → size a + ((j - i) + size z) ≤ w
  turn_room e = rw (← turn_length) (even_fits w turned e turn_even turn_rises)

  -- the row as the code fills it
  module _ (row : List ℕ) (filled : row ≡ ([] ++ only a 0) ++ middle ++ only z w) where
    is_turned : row ≡ turned
    is_turned = filled ∙ append_assoc (only a 0) middle (only z w)

    pub turn-rule : keeps_rule w row ≡ true
    turn-rule = ap (keeps_rule w) is_turned ∙ rule_from w turned turn_even turn_rises

    pub turn_inside : (p : ℕ) → p < w → inside row p ≡ not (inside xs p)
    turn_inside p h =
        inside-odd w row p turn-rule ∙ ap (λ ys. parity ys p) is_turned ∙ turn_parity p h ∙ ap not (sym (inside-odd w xs p rule))
