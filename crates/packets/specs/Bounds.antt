-- A row of bounds l0 u0 l1 u1 .. is the packets ⟨l0, u0⟩ ⟨l1, u1⟩ ..: l is the first place of an unbroken run, u the first place after it.
use Rattle.std.specs.Prelude.{◌≡◌, ℕ, zero, suc, ◌%◌, ◌<◌, ◌≤◌, Bool, true, false, cond, ◌&&◌, ◌||◌, List, [], ◌∷◌, length, Some, None, Option, ◌==◌, nat_le, nat_lt}

-- the bounds rise strictly, from low on and up to w
abbrev pub rises : ℕ → ℕ → List ℕ → Bool
rises w low [] = true
rises w low (b ∷ bs) = nat_le low b && (nat_le b w && rises w (suc b) bs)

-- the rule of packets below w: 0 ≤ l0 < u0 < l1 < u1 < .. ≤ w, with a u to each l
abbrev pub keeps_rule : ℕ → List ℕ → Bool
keeps_rule w bounds = length bounds % 2 == 0 && rises w 0 bounds

-- p lies in some packet: l ≤ p < u
abbrev pub inside : List ℕ → ℕ → Bool
inside [] p = false
inside (l ∷ []) p = false
inside (l ∷ u ∷ bs) p = (nat_le l p && nat_lt p u) || inside bs p

-- the packet at an index, from the left
abbrev pub packet_at : List ℕ → ℕ → Option (ℕ × ℕ)
packet_at [] i = None
packet_at (l ∷ []) i = None
packet_at (l ∷ u ∷ bs) zero = Some (l, u)
packet_at (l ∷ u ∷ bs) (suc i) = packet_at bs i

-- some packet ⟨l, u⟩ has the place p
abbrev pub SomePacketHas : List ℕ → ℕ → Type 0
SomePacketHas bounds p = (i : ℕ) × (l : ℕ) × (u : ℕ) × (packet_at bounds i ≡ Some (l, u)) × (l ≤ p) × (p < u)

-- how many bounds lie below n, in a rising row
abbrev pub count_below : ℕ → List ℕ → ℕ
count_below n [] = 0
count_below n (b ∷ bs) = cond (nat_lt b n) (suc (count_below n bs)) 0
