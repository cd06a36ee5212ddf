-- Setting or unsetting a run is one splice of the row of bounds.
use Rattle.std.proofs.Common.{◌≡◌, ℕ, suc, ◌+◌, ◌-◌, ◌%◌, ◌<◌, ◌≤◌, Bool, true, false, cond, not, ◌&&◌, ltb, leb, List, [], ◌∷◌, ◌++◌, length, take, drop, sym, refl, ap, ◌∙◌, ap₂, arith}
use mathlib.Core.Bool.{beq}
use Rattle.std.proofs.lemmas.List.{append_assoc, length-append, length-take-le, length-drop, take_rest}
use Rattle.std.proofs.lemmas.Bool.Decides.{nat_tests}
use Rattle.packets.specs.Bounds.{inside, keeps_rule}
use Rattle.packets.specs.Parity.{differ, odd, parity, parity_append, parity_parts, parity_front, parity-rest, inside-odd}
use Rattle.packets.specs.Rising.{Rises, Cut, rises_append, rises_lower, rises-take, rule_rises, rule_even, rule_from, even_fits}

-- a bound that may be wanted
abbrev pub only : Bool → ℕ → List ℕ
only t b = cond t (b ∷ []) []

abbrev pub size : Bool → ℕ
size t = cond t 1 0

pub only_length : (t : Bool) (b : ℕ) → length (only t b) ≡ size t
only_length true b = refl
only_length false b = refl

pub only_parity : (t : Bool) (b p : ℕ) → parity (only t b) p ≡ (t && leb b p)
only_parity true b p = grind (arith, nat_tests)
only_parity false b p = refl

pub rises_only : (w b : ℕ) (t : Bool) (ys : List ℕ) → b ≤ w → Rises w (suc b) ys → Rises w b (only t b ++ ys)
rises_only w b true ys h r = (omega arith, h, r)
rises_only w b false ys h r = rises_lower w b (suc b) ys (omega arith) r

-- `a != b`
pub differs : (a b : Bool) → not (beq a b) ≡ differ a b
differs true true = refl
differs true false = refl
differs false true = refl
differs false false = refl

-- i bounds lie below the run, and j not above its end; a and b say whether a bound is wanted at either end
module _ (w : ℕ) (xs : List ℕ) (start stop i j : ℕ) (v a b : Bool) (some : start < stop) (within : stop ≤ w) (rule : keeps_rule w xs ≡ true)
    (before : Cut w xs i start) (through : Cut w xs j (stop + 1)) (first : a ≡ differ (odd i) v) (last : b ≡ differ (odd j) v) where
  abbrev splice : List ℕ
  splice = take i xs ++ (only a start ++ (only b stop ++ drop j xs))

  splice_parity : (p : ℕ) → parity splice p ≡ cond (leb start p && ltb p stop) v (parity xs p)
  splice_parity p =
      let parts : parity splice p ≡ differ (parity (take i xs) p) (differ (a && leb start p) (differ (b && leb stop p) (parity (drop j xs) p))) =
      parity_append (take i xs) (only a start ++ (only b stop ++ drop j xs)) p
      ∙ ap (differ (parity (take i xs) p))
      (parity_append (only a start) (only b stop ++ drop j xs) p
      ∙ ap₂ differ (only_parity a start p) (parity_append (only b stop) (drop j xs) p ∙ ap (λ t. differ t (parity (drop j xs) p)) (only_parity b stop p))) in
      let at_i = parity_parts w xs i start p before in
      let at_j = parity_parts w xs j (stop + 1) p through in
      let front-i : start ≤ p → parity (take i xs) p ≡ odd i = λ h. parity_front w xs i start p before (omega arith) in
      let rest-i : p < start → parity (drop i xs) p ≡ false = parity-rest w xs i start p before in
      let front-j : stop ≤ p → parity (take j xs) p ≡ odd j = λ h. parity_front w xs j (stop + 1) p through (omega arith) in
      let rest-j : p < stop → parity (drop j xs) p ≡ false = λ h. parity-rest w xs j (stop + 1) p through (omega arith) in
      parts ∙ grind (arith, nat_tests)

  splice_rises : Rises w 0 splice
  splice_rises =
      rises_append w 0 start (take i xs) (only a start ++ (only b stop ++ drop j xs)) (omega arith) (rises-take w 0 i xs (rule_rises w xs rule)) before.low
      (rises_only w start a (only b stop ++ drop j xs) (omega arith)
      (rises_lower w (suc start) stop (only b stop ++ drop j xs) some
      (rises_only w stop b (drop j xs) within (rises_lower w (suc stop) (stop + 1) (drop j xs) (omega arith) through.high))))

  splice_length : length splice ≡ i + (size a + (size b + (length xs - j)))
  splice_length =
      length-append (take i xs) (only a start ++ (only b stop ++ drop j xs))
      ∙ ap₂ ◌+◌ (length-take-le i xs before.short)
      (length-append (only a start) (only b stop ++ drop j xs)
      ∙ ap₂ ◌+◌ (only_length a start) (length-append (only b stop) (drop j xs) ∙ ap₂ ◌+◌ (only_length b stop) (length-drop j xs)))

  splice_even : length splice % 2 ≡ 0
  splice_even =
      let whole = splice_length in
      let even = rule_even w xs rule in
      let short = through.short in
      grind (arith, nat_tests)

  -- no more bounds than there is room for
  pub splice_room : w % 2 ≡ 0 → i + (size a + (size b + (length xs - j))) ≤ w
  splice_room e = rw (← splice_length) (even_fits w splice e splice_even splice_rises)

  -- the row as the code fills it
  module _ (row : List ℕ) (filled : row ≡ ((([] ++ take i xs) ++ only a start) ++ only b stop) ++ take (length xs - j) (drop j xs)) where
    is-splice : row ≡ splice
    is-splice = filled ∙ rw (take_rest xs j) (simp append_assoc)

    pub splice-rule : keeps_rule w row ≡ true
    splice-rule = ap (keeps_rule w) is-splice ∙ rule_from w splice splice_even splice_rises

    pub splice-inside : (p : ℕ) → inside row p ≡ cond (leb start p && ltb p stop) v (inside xs p)
    splice-inside p =
        inside-odd w row p splice-rule ∙ ap (λ ys. parity ys p) is-splice ∙ splice_parity p
        ∙ ap (λ (t : Bool). cond (leb start p && ltb p stop) v t) (sym (inside-odd w xs p rule))
