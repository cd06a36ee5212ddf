-- A walk over packets, one by one: what it has so far is what the packets before the one that it has come to have.
use Rattle.std.proofs.Common.{◌≡◌, ℕ, zero, suc, ◌*◌, Bool, false, ◌&&◌, ◌||◌, ltb, leb, List, [], ◌∷◌, length, Some, None, refl, ap, ◌∙◌, arith}
use Rattle.std.proofs.lemmas.Bool.Decides.{nat_tests}
use Rattle.packets.specs.Bounds.{inside, packet_at}

-- p lies in one of the first n packets
abbrev pub in_first : ℕ → List ℕ → ℕ → Bool
in_first zero bounds p = false
in_first (suc n) [] p = false
in_first (suc n) (l ∷ []) p = false
in_first (suc n) (l ∷ u ∷ bs) p = (leb l p && ltb p u) || in_first n bs p

pub first_none : (xs : List ℕ) (n p : ℕ) → packet_at xs n ≡ None → in_first (suc n) xs p ≡ in_first n xs p
first_none [] zero p e = refl
first_none [] (suc n) p e = refl
first_none (l ∷ []) zero p e = refl
first_none (l ∷ []) (suc n) p e = refl
first_none (l ∷ u ∷ bs) zero p e = absurd (let some : ◌≡◌ {A = ℕ} 0 1 = cc in omega arith)
first_none (l ∷ u ∷ bs) (suc n) p e = ap (λ (t : Bool). (leb l p && ltb p u) || t) (first_none bs n p e)

pub first_more : (xs : List ℕ) (n l u p : ℕ) → packet_at xs n ≡ Some (l, u) → in_first (suc n) xs p ≡ ((leb l p && ltb p u) || in_first n xs p)
first_more [] n l u p e = absurd (let none : ◌≡◌ {A = ℕ} 0 1 = cc in omega arith)
first_more (a ∷ []) n l u p e = absurd (let none : ◌≡◌ {A = ℕ} 0 1 = cc in omega arith)
first_more (a ∷ b ∷ bs) zero l u p e =
    let same : ◌≡◌ {A = ℕ × ℕ} (a, b) (l, u) = cc in
    ap (λ (q : ℕ × ℕ). (leb q.0 p && ltb p q.1) || false) same
first_more (a ∷ b ∷ bs) (suc n) l u p e =
    ap (λ (t : Bool). (leb a p && ltb p b) || t) (first_more bs n l u p e) ∙ swap (leb a p && ltb p b) (leb l p && ltb p u) (in_first n bs p)
  where
    swap : (x y z : Bool) → (x || (y || z)) ≡ (y || (x || z))
    swap x y z = grind (arith, nat_tests)

pub first_all : (xs : List ℕ) (n p : ℕ) → 2 * n ≡ length xs → in_first n xs p ≡ inside xs p
first_all [] zero p e = refl
first_all [] (suc n) p e = refl
first_all (l ∷ []) zero p e = absurd (omega arith)
first_all (l ∷ []) (suc n) p e = refl
first_all (l ∷ u ∷ bs) zero p e = absurd (omega arith)
first_all (l ∷ u ∷ bs) (suc n) p e = ap (λ (t : Bool). (leb l p && ltb p u) || t) (first_all bs n p (omega arith))
