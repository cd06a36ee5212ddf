-- Rows of words: a loop over all of them, a write to one, and a search.
use Rattle.std.proofs.Common.{Iter, ◌≡◌, ℕ, ◌+◌, ◌-◌, ◌*◌, ◌/◌, ◌%◌, ◌^◌, ◌<◌, ◌≤◌, Bool, true, false, cond, not, ◌&&◌, ◌||◌, eqb, ltb, ◌≢◌, List, length, get_or, set, drop, Some, sym, ap, ◌∙◌, subst, ⊎_elim, arith}
use lib.Bits.{bit_and, bit_or}
use lib.Count.{count_trailing_zeros}
use Rattle.std.proofs.lemmas.Nat.{shr_le}
use Rattle.std.proofs.lemmas.List.{get_or-set_same, get_or-set_other, get_or-drop, get_or_default, length-drop}
use Rattle.std.specs.List.{enumerate_from}
use Rattle.std.specs.declared.iter.Skip.{Skip}
use Rattle.std.specs.declared.iter.Enumerate.{Enumerate}
use Rattle.std.specs.Iterator.Adapters.{skip_steps, skip_source, skip_count, enumerate_steps, enumerate_source, enumerate_count}
use Rattle.std.proofs.lemmas.Fn.{fronts}
use Rattle.std.proofs.lemmas.Iterator.{YieldsList, YieldsList-from_slice}
use Rattle.std.proofs.lemmas.Iterator.Adapters.{YieldsList-from_skip}
use Rattle.std.proofs.lemmas.Iterator.Consumers.{YieldsList-from_enumerate}
use Rattle.std.proofs.lemmas.List.FromFn.{length-enumerate_from, get_or-enumerate_from}
use Rattle.std.proofs.lemmas.Bool.{cases_eq, lt-ltb, cond-true}
use Rattle.std.proofs.lemmas.Bool.Decides.{nat_tests}
use Rattle.bits.specs.Bits.{bit_at, words_have}
use Rattle.codes.specs.Sorts.{Agree, Next}
use Rattle.bits.proofs.Digits.{digit_put, digit_take, digit_zero, digit_below, digit_shifted, zeros_end, zeros-before}

-- each word has 64 bits
abbrev pub Fit : List ℕ → Type 0
Fit words = (k : ℕ) → get_or words k 0 < 2 ^ 64

pub fit_set : (words : List ℕ) (i n : ℕ) → i < length words → n < 2 ^ 64 → Fit words → Fit (set words i n)
fit_set words i n h l fit k = ⊎_elim
    (λ (e : k ≡ i). subst (λ (j : ℕ). get_or (set words i n) j 0 < 2 ^ 64) (sym e) (rw get_or-set_same l))
    (λ (ne : k ≢ i). rw get_or-set_other (fit k))
    (cases_eq k i)

-- the words below i are made by op of the old ones and the others', and the rest are as they were
abbrev pub Done : (ℕ → ℕ → ℕ) → List ℕ → List ℕ → List ℕ → ℕ → Type 0
Done op old others new i = (j : ℕ) → get_or new j 0 ≡ cond (ltb j i) (op (get_or old j 0) (get_or others j 0)) (get_or old j 0)

-- after the last word each fits, where op makes words of words
pub done_fit : (op : ℕ → ℕ → ℕ) (old others new : List ℕ) (i : ℕ) → Fit old → Fit others → Done op old others new i
    → ((m n : ℕ) → m < 2 ^ 64 → n < 2 ^ 64 → op m n < 2 ^ 64) → Fit new
done_fit op old others new i fit more done word k =
    let one = word (get_or old k 0) (get_or others k 0) (fit k) (more k) in
    let kept = fit k in
    rw (done k) (elim (ltb k i) as (λ t. cond t (op (get_or old k 0) (get_or others k 0)) (get_or old k 0) < 2 ^ 64) [ true ↦ one | false ↦ kept ])

-- what op does to each bit, the loop did to each place
pub done_all : (op : ℕ → ℕ → ℕ) (f : Bool → Bool → Bool) (old others new : List ℕ) (i : ℕ) → 8 ≤ i → Fit old → Done op old others new i
    → ((m n p : ℕ) → m < 2 ^ 64 → p < 64 → bit_at (op m n) p ≡ f (bit_at m p) (bit_at n p))
    → Agree 512 (words_have new) (λ p. f (words_have old p) (words_have others p))
done_all op f old others new i end fit done digit p h =
    ap (λ (n : ℕ). bit_at n (p % 64)) (done (p / 64) ∙ cond-true _ _ _ (lt-ltb (p / 64) i (omega arith)))
    ∙ digit (get_or old (p / 64) 0) (get_or others (p / 64) 0) (p % 64) (fit (p / 64)) (omega arith)

-- a write to the word of the place k
module _ (words : List ℕ) (k : ℕ) (within : k / 64 < length words) where
  written : (n p : ℕ) (f : Bool → Bool) → bit_at n (p % 64) ≡ cond (eqb (p % 64) (k % 64)) (f (bit_at (get_or words (k / 64) 0) (p % 64))) (bit_at (get_or words (k / 64) 0) (p % 64))
      → words_have (set words (k / 64) n) p ≡ cond (eqb p k) (f (words_have words p)) (words_have words p)
  written n p f bit = ⊎_elim
      (λ (e : p / 64 ≡ k / 64).
      let same : eqb (p % 64) (k % 64) ≡ eqb p k = grind (arith, nat_tests) in
      ap (λ (i : ℕ). bit_at (get_or (set words (k / 64) n) i 0) (p % 64)) e ∙ rw get_or-set_same bit
      ∙ ap (λ (t : Bool). cond t (f (bit_at (get_or words (k / 64) 0) (p % 64))) (bit_at (get_or words (k / 64) 0) (p % 64))) same
      ∙ ap (λ (i : ℕ). cond (eqb p k) (f (bit_at (get_or words i 0) (p % 64))) (bit_at (get_or words i 0) (p % 64))) (sym e))
      (λ (ne : p / 64 ≢ k / 64).
      let other : eqb p k ≡ false = grind (arith, nat_tests) in
      rw (other, get_or-set_other))
      (cases_eq (p / 64) (k / 64))

  pub put_place : (p : ℕ) → words_have (set words (k / 64) (bit_or (get_or words (k / 64) 0) ((1 * 2 ^ (k % 64)) % 2 ^ 64))) p ≡ (eqb p k || words_have words p)
  put_place p =
      let word = get_or words (k / 64) 0 in
      let bit = digit_put word (k % 64) (p % 64) (omega arith) in
      written (bit_or word ((1 * 2 ^ (k % 64)) % 2 ^ 64)) p (λ _. true) (bit ∙ grind (arith, nat_tests)) ∙ grind (arith, nat_tests)

  pub take-place : (p : ℕ) → words_have (set words (k / 64) (bit_and (get_or words (k / 64) 0) ((2 ^ 64 - 1) - (1 * 2 ^ (k % 64)) % 2 ^ 64))) p ≡ (not (eqb p k) && words_have words p)
  take-place p =
      let word = get_or words (k / 64) 0 in
      let bit = digit_take word (k % 64) (p % 64) (omega arith) (omega arith) in
      written (bit_and word ((2 ^ 64 - 1) - (1 * 2 ^ (k % 64)) % 2 ^ 64)) p (λ _. false) (bit ∙ grind (arith, nat_tests)) ∙ grind (arith, nat_tests)

-- what a word, shifted so that the place `from` comes first, tells of its places from there on
module _ (words : List ℕ) (i a from rest : ℕ) (start : from ≡ i * 64 + a) (in-word : a < 64) (shifted : rest ≡ get_or words i 0 / 2 ^ a) where
  in_rest : (p : ℕ) → from ≤ p → p < i * 64 + 64 → words_have words p ≡ bit_at rest (p - from)
  in_rest p h l =
      let word : p / 64 ≡ i = omega arith in
      let left : p % 64 - a ≡ p - from = omega arith in
      ap (λ (j : ℕ). bit_at (get_or words j 0) (p % 64)) word ∙ digit_shifted (get_or words i 0) a (p % 64) (omega arith)
      ∙ ap (λ (n : ℕ). bit_at n (p % 64 - a)) (sym shifted) ∙ ap (bit_at rest) left

  pub none_in_word : rest ≡ 0 → (p : ℕ) → from ≤ p → p < i * 64 + 64 → words_have words p ≡ false
  none_in_word e p h l = in_rest p h l ∙ ap (λ (n : ℕ). bit_at n (p - from)) e ∙ digit_zero (p - from)

  pub first_in_word : Fit words → i < 8 → 0 < rest → Next 512 (words_have words) from (Some (from + count_trailing_zeros 64 rest))
  first_in_word fit h some =
      let t = count_trailing_zeros 64 rest in
      let q = from + t in
      let small : rest < 2 ^ 64 = omega (arith, fit i, shr_le (get_or words i 0) a) in
      let one : bit_at rest t ≡ true = zeros_end rest some small in
      let unshifted : bit_at (get_or words i 0) (a + t) ≡ true =
      digit_shifted (get_or words i 0) a (a + t) (omega arith) ∙ ap (λ (n : ℕ). bit_at n (a + t - a)) (sym shifted)
      ∙ ap (bit_at rest) (let back : a + t - a ≡ t = omega arith in back) ∙ one in
      let below : a + t < 64 = digit_below (get_or words i 0) (a + t) (fit i) unshifted in (
        omega arith,
        omega arith,
        in_rest q (omega arith) (omega arith) ∙ ap (bit_at rest) (let back : q - from ≡ t = omega arith in back) ∙ one,
        (λ p l b. in_rest p l (omega arith) ∙ zeros-before rest (p - from) some small (omega arith)),
      )

-- the words from the word `start` on, each with its index
abbrev pub later : List ℕ → ℕ → List (ℕ × ℕ)
later words start = drop start (enumerate_from 0 words)

-- a `for` over them gives just these
pub later_road : (words : List ℕ) (start : ℕ) (s : Skip (Enumerate (Iter ℕ))) → (enumerate_source (skip_source s)).rest.now ≡ words → enumerate_count (skip_source s) ≡ 0 → skip_count s ≡ start
    → YieldsList (skip_steps (enumerate_steps fronts)) (λ p. (p.0, p.1.now)) s (later words start)
later_road words start s rest count skipped = YieldsList-from_skip start (YieldsList-from_enumerate (YieldsList-from_slice words rest) count) skipped

pub later_count : (words : List ℕ) (start : ℕ) → length (later words start) ≡ length words - start
later_count words start = omega (arith, length-drop start (enumerate_from 0 words), length-enumerate_from 0 words)

pub later_word : (words : List ℕ) (start k i word : ℕ) → k < length (later words start) → (i, word) ≡ get_or (later words start) k (i, word)
    → (i ≡ start + k) × (word ≡ get_or words i 0)
later_word words start k i word within e =
    let there : start + k < length words = omega (arith, later_count words start) in
    let at : (i, word) ≡ (0 + (start + k), get_or words (start + k) word) =
    e ∙ get_or-drop start (enumerate_from 0 words) k (i, word) ∙ get_or-enumerate_from 0 words (start + k) (i, word) there in
    let index : i ≡ start + k = omega (arith, ap (λ (p : ℕ × ℕ). p.0) at) in (
      index,
      ap (λ (p : ℕ × ℕ). p.1) at ∙ get_or_default words (start + k) word 0 there ∙ ap (λ (j : ℕ). get_or words j 0) (sym index),
    )
