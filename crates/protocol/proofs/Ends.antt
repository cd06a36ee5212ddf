-- Where the first kit ends, read off the words of the file.
use Rattle.std.proofs.Common.{◌≡◌, ℕ, zero, suc, ◌+◌, ◌<◌, ◌≤◌, min, Bool, true, false, cond, List, [], ◌∷◌, length, get_or, take, drop, sym, refl, ◌∙◌, ◌⊎◌, inl, inr, arith}
use Rattle.std.proofs.lemmas.Bool.{not-true, not-false, cases_order}
use Rattle.std.proofs.lemmas.List.Sums.{prefix_len_passes, prefix_len_stops, prefix_len-le-length}
use Rattle.words.specs.declared.word.WordKind.TheVariants.{AnswerHead}
use Rattle.words.specs.Words.{is_kind, low_bits}
use Rattle.protocol.specs.Kits.{inside, before_head, kit_length}

at_most : (b : Bool) (m n : ℕ) → cond b (min m n) m ≤ m
at_most true m n = omega arith
at_most false m n = omega arith

-- no word but the first begins another kit
pub no_head : (words : List ℕ) (n k : ℕ) → n ≡ kit_length words → 0 < k → k < n → is_kind AnswerHead (get_or words k 0) ≡ false
no_head [] n k e some less = absurd (omega (arith, e, less))
no_head (head ∷ rest) n zero e some less = absurd (omega (arith, some))
no_head (head ∷ rest) n (suc k) e some less =
    let most = at_most (is_kind AnswerHead head) (before_head rest) (low_bits head) in
    not-true _ (prefix_len_passes inside rest k 0 (omega (arith, e, less, most)))

ends_at : (rest : List ℕ) (b : Bool) (n : ℕ) → cond b (min (before_head rest) n) (before_head rest) < length rest → (is_kind AnswerHead (get_or rest (cond b (min (before_head rest) n) (before_head rest)) 0) ≡ true) ⊎ ((b ≡ true) × (cond b (min (before_head rest) n) (before_head rest) ≡ n))
ends_at rest false n less = inl (not-false _ (prefix_len_stops inside rest 0 less))
ends_at rest true n less =
    elim (cases_order (before_head rest) n) [
      | inl same ↦ inr (refl, omega (arith, same))
      | inr q ↦
          elim q [
            | inl before ↦
                let e : min (before_head rest) n ≡ before_head rest = omega (arith, before) in
                inl (rw e (not-false _ (prefix_len_stops inside rest 0 (omega (arith, e, less)))))
            | inr after ↦ inr (refl, omega (arith, after))
          ]
    ]

-- it ends before the next head, or with the names that its head counts
pub kit_ends : (words : List ℕ) (n : ℕ) → n ≡ kit_length words → n < length words → (is_kind AnswerHead (get_or words n 0) ≡ true) ⊎ ((is_kind AnswerHead (get_or words 0 0) ≡ true) × (n ≡ low_bits (get_or words 0 0) + 1))
kit_ends [] n e less = absurd (omega (arith, less))
kit_ends (head ∷ rest) zero e less = absurd (omega (arith, e))
kit_ends (head ∷ rest) (suc m) e less =
    let same : m ≡ cond (is_kind AnswerHead head) (min (before_head rest) (low_bits head)) (before_head rest) = omega (arith, e) in
    rw same (elim (ends_at rest (is_kind AnswerHead head) (low_bits head) (omega (arith, same, less))) [
      | inl next ↦ inl next
      | inr full ↦ inr (full.0, omega (arith, full.1))
    ])

step : (b : Bool) (m k n : ℕ) → k ≡ min m n → cond b (1 + k) 0 ≡ min (cond b (1 + m) 0) (suc n)
step true m k n e = omega (arith, e)
step false m k n e = omega arith

-- where no more words than there are is the bound, it is none
within : (b : Bool) (m k low most n : ℕ) → m ≤ k → most ≡ cond b (min k low) k → n ≡ min m most → n ≡ cond b (min m low) m
within true m k low most n le e f = omega (arith, le, e, f)
within false m k low most n le e f = omega (arith, le, e, f)

-- looked for among the first n words, the next head is where it is, or none is found
cut_before : (n : ℕ) (words : List ℕ) → before_head (take n words) ≡ min (before_head words) n
cut_before zero words = omega arith
cut_before (suc n) [] = omega arith
cut_before (suc n) (word ∷ words) = step (inside word) (before_head words) _ n (cut_before n words)

-- a first word and those behind it that a kit may have, up to the next head
pub kit_is : (words rest : List ℕ) (b : Bool) (most n : ℕ) → 1 ≤ length words → rest ≡ drop 1 words → is_kind AnswerHead (get_or words 0 0) ≡ b
    → most ≡ cond b (min (length rest) (low_bits (get_or words 0 0))) (length rest)
    → n ≡ before_head (take most rest) → n + 1 ≡ kit_length words
kit_is [] rest b most n some behind head counted before = absurd (omega (arith, some))
kit_is (first ∷ tail) rest b most n some behind head counted before =
    let least : n ≡ min (before_head rest) most = before ∙ cut_before most rest in
    let here : n ≡ cond b (min (before_head rest) (low_bits first)) (before_head rest) =
    within b (before_head rest) (length rest) (low_bits first) most n (prefix_len-le-length inside rest) counted least in
    let same : n ≡ cond (is_kind AnswerHead first) (min (before_head tail) (low_bits first)) (before_head tail) = rw (head, sym behind) here in
    omega (arith, same)
