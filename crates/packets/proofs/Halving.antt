-- Where a number cuts a rising row, as a search by halving finds it.
use Rattle.std.proofs.Common.{◌≡◌, ℕ, zero, suc, ◌≤◌, true, false, ltb, List, [], ◌∷◌, length, sym, arith}
use Rattle.std.specs.List.Sorted.{IsPartitionedBy, IsPartitionPoint}
use Rattle.std.proofs.lemmas.Bool.{lt-ltb, ltb-true, ltb-false}
use Rattle.packets.specs.Bounds.{count_below}
use Rattle.packets.specs.Rising.{Rises, rises_low, cut_here}

pub low_first : (w low n : ℕ) (xs : List ℕ) → Rises w low xs → IsPartitionedBy (λ b. ltb b n) xs
low_first w low n [] r i j d h l e = absurd (omega arith)
low_first w low n (b ∷ bs) r zero zero d h l e = e
low_first w low n (b ∷ bs) r zero (suc j) d h l e = lt-ltb b n (omega (arith, rises_low w (suc b) bs j d r.2 (omega arith), ltb-true _ n e))
low_first w low n (b ∷ bs) r (suc i) zero d h l e = absurd (omega arith)
low_first w low n (b ∷ bs) r (suc i) (suc j) d h l e = low_first w (suc b) n bs r.2 i j d (omega arith) (omega arith) e

pub point_counts : (w n : ℕ) (xs : List ℕ) (i : ℕ) → Rises w 0 xs → i ≤ length xs
    → IsPartitionPoint (λ b. ltb b n ≡ true) (λ b. ltb b n ≡ false) xs i → i ≡ count_below n xs
point_counts w n xs i r h point =
    sym (cut_here w 0 n xs i r h (λ k e. ltb-true _ n (point.0 k 0 (omega arith) (omega arith))) (λ l. ltb-false _ n (point.1 i 0 (omega arith) l)))
