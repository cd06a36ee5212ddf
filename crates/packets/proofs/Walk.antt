-- A walk over the packets of a row from the left, pair by pair.
use Rattle.std.proofs.Common.{◌≡◌, ℕ, zero, suc, ◌<◌, ◌≤◌, Bool, false, not, ◌&&◌, ◌||◌, ltb, leb, ◌+◌, ◌*◌, ◌/◌, List, [], ◌∷◌, length, get_or, drop, refl, ap, ◌∙◌, subst, arith}
use Rattle.std.proofs.lemmas.List.{get_or-take, drop-drop, length-drop}
use Rattle.std.specs.Simd.{first_chunks}
use Rattle.std.proofs.lemmas.Bool.Decides.{nat_tests}
use Rattle.packets.specs.Bounds.{inside}
use Rattle.packets.specs.Rising.{Rises, rises_lower}
use Rattle.codes.specs.Sorts.{Agree}
use Rattle.packets.proofs.Pairs.{InPairs}

inside-before : (w low : ℕ) (xs : List ℕ) (p : ℕ) → Rises w low xs → p < low → inside xs p ≡ false
inside-before w low [] p r h = refl
inside-before w low (l ∷ []) p r h = refl
inside-before w low (l ∷ u ∷ xs) p r h =
    let rest = inside-before w (suc u) xs p r.2.2 (omega (arith, r.0, r.2.0)) in
    let before : p < l = omega (arith, r.0) in
    grind (arith, nat_tests)

pub inside_short : (xs : List ℕ) (p : ℕ) → length xs < 2 → inside xs p ≡ false
inside_short [] p h = refl
inside_short (l ∷ []) p h = refl
inside_short (l ∷ u ∷ xs) p h = absurd (omega arith)

-- a bound of the pair at an index, in the row from that pair on
chunk_at : (n i j : ℕ) (xs : List ℕ) → i < n → j < 2 → get_or (get_or (first_chunks 2 n xs) i []) j 0 ≡ get_or (drop (i * 2) xs) j 0
chunk_at zero i j xs h l = absurd (omega arith)
chunk_at (suc n) zero j xs h l = get_or-take 2 xs j 0 l
chunk_at (suc n) (suc i) j xs h l =
    let on : 2 + i * 2 ≡ suc i * 2 = omega arith in
    chunk_at n i j (drop 2 xs) (omega arith) l ∙ ap (λ ys. get_or ys j 0) (drop-drop (i * 2) 2 xs ∙ ap (λ k. drop k xs) on)

-- what is ahead at the pair at an index
module _ {others : List ℕ} {pairs : List (List ℕ)} (walk : InPairs others pairs) (i : ℕ) where
  abbrev ahead : List ℕ
  ahead = drop (i * 2) others

  bound_at : (j : ℕ) → i < length pairs → j < 2 → get_or (get_or pairs i []) j 0 ≡ get_or ahead j 0
  bound_at j h l = ap (λ ps. get_or (get_or ps i []) j 0) walk.front ∙ chunk_at (length others / 2) i j others (omega (arith, walk.count)) l

  two_left : i < length pairs → 2 ≤ length ahead
  two_left h = omega (arith, walk.count, length-drop (i * 2) others)

  none_left : length pairs ≤ i → length ahead < 2
  none_left h = omega (arith, walk.count, length-drop (i * 2) others)

  past_two : drop 2 ahead ≡ drop ((i + 1) * 2) others
  past_two = let on : i * 2 + 2 ≡ (i + 1) * 2 = omega arith in drop-drop 2 (i * 2) others ∙ ap (λ k. drop k others) on

-- a join has the places that it had, and those of the packets that it has come past
pub record Joined (old : ℕ → Bool) (others rest : List ℕ) (now : ℕ → Bool) : Type 0 where
  pub so_far : Agree 512 (λ p. inside rest p || now p) (λ p. old p || inside others p)

join_step : (old : ℕ → Bool) (others rest : List ℕ) (now new : ℕ → Bool) {l u : ℕ} → 2 ≤ length rest → l ≡ get_or rest 0 0 → u ≡ get_or rest 1 0
    → Joined old others rest now → Agree 512 new (λ p. (leb l p && ltb p u) || now p) → Joined old others (drop 2 rest) new
join_step old others [] now new h el eu j set = absurd (omega arith)
join_step old others (a ∷ []) now new h el eu j set = absurd (omega arith)
join_step old others (a ∷ b ∷ rest) now new {l} {u} h el eu j set = record {
  so_far = λ p m. turn (old p) (now p) (new p) (inside others p) (inside rest p) l u a b p el eu (j.so_far p m) (set p m);
}
  where
    turn : (o n m d e : Bool) (l u a b p : ℕ) → l ≡ a → u ≡ b → (((leb a p && ltb p b) || e) || n) ≡ (o || d) → m ≡ ((leb l p && ltb p u) || n) → (e || m) ≡ (o || d)
    turn o n m d e l u a b p el eu x y = grind (arith, nat_tests)

pub join_all : {others : List ℕ} {pairs : List (List ℕ)} → InPairs others pairs → (i : ℕ) (old now : ℕ → Bool) → length pairs ≤ i → Joined old others (drop (i * 2) others) now
    → Agree 512 now (λ p. old p || inside others p)
join_all {others} walk i old now h j p m = let none = inside_short (drop (i * 2) others) p (none_left walk i h) in let all = j.so_far p m in grind (arith, nat_tests)

-- a meet has from the edge on what it had, and before it what both had; from the edge on the other has what is left
pub record Met (old : ℕ → Bool) (others rest : List ℕ) (now : ℕ → Bool) (edge : ℕ) : Type 0 where
  pub rises : Rises 512 edge rest
  pub left : (p : ℕ) → edge ≤ p → inside others p ≡ inside rest p
  pub so_far : Agree 512 now (λ p. old p && (leb edge p || inside others p))

meet_step : (old : ℕ → Bool) (others rest : List ℕ) (now new : ℕ → Bool) (edge : ℕ) {l u : ℕ} → 2 ≤ length rest → l ≡ get_or rest 0 0 → u ≡ get_or rest 1 0
    → Met old others rest now edge → Agree 512 new (λ p. not (leb edge p && ltb p l) && now p) → Met old others (drop 2 rest) new u
meet_step old others [] now new edge h el eu m unset = absurd (omega arith)
meet_step old others (a ∷ []) now new edge h el eu m unset = absurd (omega arith)
meet_step old others (a ∷ b ∷ rest) now new edge {l} {u} h el eu m unset = record {
  rises = rises_lower 512 u (suc b) rest (omega arith) m.rises.2.2;
  left = λ p k. let same = m.left p (omega (arith, m.rises.0, m.rises.2.0)) in past (inside others p) (inside rest p) a b p (omega arith) same;
  so_far = λ p k.
      turn (old p) (now p) (new p) (inside others p) (inside rest p) edge l u a b p el eu m.rises.0 m.rises.2.0 (m.left p)
      (inside-before 512 (suc b) rest p m.rises.2.2) (m.so_far p k) (unset p k);
}
  where
    past : (d e : Bool) (a b p : ℕ) → b ≤ p → d ≡ ((leb a p && ltb p b) || e) → d ≡ e
    past d e a b p h x = grind (arith, nat_tests)

    turn : (o n m d e : Bool) (k l u a b p : ℕ) → l ≡ a → u ≡ b → k ≤ a → suc a ≤ b → (k ≤ p → d ≡ ((leb a p && ltb p b) || e)) → (p < suc b → e ≡ false)
        → n ≡ (o && (leb k p || d)) → m ≡ (not (leb k p && ltb p l) && n) → m ≡ (o && (leb u p || d))
    turn o n m d e k l u a b p el eu g h s t x y = grind (arith, nat_tests)

pub meet_all : {others : List ℕ} {pairs : List (List ℕ)} → InPairs others pairs → (i : ℕ) (old now new : ℕ → Bool) (edge : ℕ) → length pairs ≤ i → Met old others (drop (i * 2) others) now edge
    → Agree 512 new (λ p. not (leb edge p && ltb p 512) && now p) → Agree 512 new (λ p. old p && inside others p)
meet_all {others} walk i old now new edge h m unset p l =
    end (old p) (now p) (new p) (inside others p) edge p l (λ k. let same = m.left p k in let none = inside_short (drop (i * 2) others) p (none_left walk i h) in grind (arith, nat_tests)) (m.so_far p l) (unset p l)
  where
    end : (a b c d : Bool) (k p : ℕ) → p < 512 → (k ≤ p → d ≡ false) → b ≡ (a && (leb k p || d)) → c ≡ (not (leb k p && ltb p 512) && b) → c ≡ (a && d)
    end a b c d k p h s x y = grind (arith, nat_tests)

-- a step of either walk
module _ {others : List ℕ} {pairs : List (List ℕ)} (walk : InPairs others pairs) (i : ℕ) (old : ℕ → Bool) (now new : ℕ → Bool) {l u : ℕ} where
  pub join_more : i < length pairs → l ≡ get_or (get_or pairs i []) 0 0 → u ≡ get_or (get_or pairs i []) 1 0
      → Joined old others (drop (i * 2) others) now → Agree 512 new (λ p. (leb l p && ltb p u) || now p) → Joined old others (drop ((i + 1) * 2) others) new
  join_more h el eu j set =
      subst (λ rest. Joined old others rest new) (past_two walk i)
      (join_step old others (drop (i * 2) others) now new (two_left walk i h) (el ∙ bound_at walk i 0 h (omega arith)) (eu ∙ bound_at walk i 1 h (omega arith)) j set)

  pub meet_more : (edge : ℕ) → i < length pairs → l ≡ get_or (get_or pairs i []) 0 0 → u ≡ get_or (get_or pairs i []) 1 0
      → Met old others (drop (i * 2) others) now edge → Agree 512 new (λ p. not (leb edge p && ltb p l) && now p) → Met old others (drop ((i + 1) * 2) others) new u
  meet_more edge h el eu m unset =
      subst (λ rest. Met old others rest new u) (past_two walk i)
      (meet_step old others (drop (i * 2) others) now new edge (two_left walk i h) (el ∙ bound_at walk i 0 h (omega arith)) (eu ∙ bound_at walk i 1 h (omega arith)) m unset)
