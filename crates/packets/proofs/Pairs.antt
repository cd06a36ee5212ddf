-- The packet at an index is the pair at that index of the row of bounds, and a place belongs where it lies in one.
use Rattle.std.proofs.Common.{◌≡◌, ℕ, zero, suc, ◌+◌, ◌*◌, ◌/◌, ◌<◌, ◌≤◌, true, false, ◌&&◌, ltb, leb, List, [], ◌∷◌, length, get_or, Some, None, Decides, refl, sym, ap, ◌∙◌, ap₂, subst, ⊎_elim, arith}
use Rattle.std.specs.Simd.{first_chunks}
use Rattle.std.proofs.lemmas.Bool.{both_ways, leb-true, ltb-true, le-leb, lt-ltb, and_parts, and_from, or_cases, or_left, or_right}
use Rattle.packets.specs.Bounds.{inside, packet_at, SomePacketHas}

pub packet_none : (xs : List ℕ) (i : ℕ) → length xs ≤ 2 * i + 1 → packet_at xs i ≡ None
packet_none [] i h = refl
packet_none (l ∷ []) i h = refl
packet_none (l ∷ u ∷ xs) zero h = absurd (omega arith)
packet_none (l ∷ u ∷ xs) (suc i) h = packet_none xs i (omega arith)

-- a row taken apart into pairs
pub record InPairs (row : List ℕ) (pairs : List (List ℕ)) : Type 0 where
  pub count : length pairs ≡ length row / 2
  pub front : pairs ≡ first_chunks 2 (length row / 2) row

pub in_pairs : {held row : List ℕ} {pairs : List (List ℕ)} → held ≡ row → length pairs ≡ length held / 2
    → pairs ≡ first_chunks 2 (length held / 2) held → InPairs row pairs
in_pairs {pairs = pairs} same count front = subst (λ xs. InPairs xs pairs) same (record { count = count; front = front })

abbrev two : List ℕ → ℕ × ℕ
two pair = (get_or pair 0 0, get_or pair 1 0)

pair_there : (n i : ℕ) (xs : List ℕ) → i < n → 2 * n ≤ length xs → packet_at xs i ≡ Some (two (get_or (first_chunks 2 n xs) i []))
pair_there zero i xs h l = absurd (omega arith)
pair_there (suc n) i [] h l = absurd (omega arith)
pair_there (suc n) i (a ∷ []) h l = absurd (omega arith)
pair_there (suc n) zero (a ∷ b ∷ xs) h l = refl
pair_there (suc n) (suc i) (a ∷ b ∷ xs) h l = pair_there n i xs (omega arith) (omega arith)

inside_some : (xs : List ℕ) (p : ℕ) → inside xs p ≡ true → SomePacketHas xs p
inside_some [] p e = absurd (both_ways false refl e)
inside_some (l ∷ []) p e = absurd (both_ways false refl e)
inside_some (l ∷ u ∷ xs) p e = ⊎_elim
    (λ (h : (leb l p && ltb p u) ≡ true).
    let parts = and_parts (leb l p) (ltb p u) h in
    (0, l, u, refl, leb-true l p parts.0, ltb-true p u parts.1))
    (λ (h : inside xs p ≡ true). let rest = inside_some xs p h in (suc rest.0, rest.1, rest.2, rest.3, rest.4, rest.5))
    (or_cases (leb l p && ltb p u) (inside xs p) e)

some_inside : (xs : List ℕ) (p i l u : ℕ) → packet_at xs i ≡ Some (l, u) → l ≤ p → p < u → inside xs p ≡ true
some_inside [] p i l u e h k = absurd (let no-packet : ◌≡◌ {A = ℕ} 0 1 = cc in omega arith)
some_inside (a ∷ []) p i l u e h k = absurd (let no-packet : ◌≡◌ {A = ℕ} 0 1 = cc in omega arith)
some_inside (a ∷ b ∷ xs) p zero l u e h k =
    let same : ◌≡◌ {A = ℕ × ℕ} (a, b) (l, u) = cc in
    let low : a ≡ l = ap (λ (q : ℕ × ℕ). q.0) same in
    let high : b ≡ u = ap (λ (q : ℕ × ℕ). q.1) same in
    or_left (leb a p && ltb p b) (inside xs p) (and_from (leb a p) (ltb p b) (le-leb a p (omega arith)) (lt-ltb p b (omega arith)))
some_inside (a ∷ b ∷ xs) p (suc i) l u e h k = or_right (leb a p && ltb p b) (inside xs p) (some_inside xs p i l u e h k)

pub belongs : (xs : List ℕ) (p : ℕ) → Decides (inside xs p) (SomePacketHas xs p)
belongs xs p = (inside_some xs p, λ some. some_inside xs p some.0 some.1 some.2 some.3 some.4 some.5)

module _ {row : List ℕ} {pairs : List (List ℕ)} (is : InPairs row pairs) (i : ℕ) where
  pub no_packet : length pairs ≤ i → packet_at row i ≡ None
  no_packet h = packet_none row i (omega (arith, is.count))

  pub packet_pair : {pair : List ℕ} {l u : ℕ} → i < length pairs → pair ≡ get_or pairs i [] → l ≡ get_or pair 0 0 → u ≡ get_or pair 1 0
      → Some (l, u) ≡ packet_at row i
  packet_pair {pair} h e el eu =
      ap₂ (λ (l u : ℕ). Some (l, u)) el eu
      ∙ ap (λ q. Some (two q)) (e ∙ ap (λ ps. get_or ps i []) is.front)
      ∙ sym (pair_there (length row / 2) i row (omega (arith, is.count)) (omega arith))
