-- What the library's halving searches tell of a rising row.
use Rattle.std.proofs.Common.{◌≡◌, ℕ, ◌+◌, ◌<◌, ◌≤◌, true, false, ltb, List, [], ◌∷◌, map, length, get_or, Result, Ok, Err, inl, inr, sym, subst, arith}
use Rattle.std.specs.List.{AllWithin}
use Rattle.std.specs.List.Sorted.{IsNonDecreasingBy, IsBinarySearchResult, IsPartitionPoint, IsSearchInRange}
use Rattle.std.specs.Ordering.{nat_cmp}
use Rattle.std.proofs.lemmas.Cmp.{ranked}
use Rattle.std.proofs.lemmas.Bool.{cases_order, ltb-true, ltb-false}
use Rattle.std.proofs.lemmas.Bool.Decides.{nat_tests}
use Rattle.std.proofs.lemmas.List.{get_or-map, length-map}
use Rattle.descent.specs.Order.{rising_from}
use Rattle.descent.proofs.Proper.{rising_later, rising_upto}
use Rattle.search.specs.Order.{Cut, Within, Located}

pub in_range : (n : ℕ) (r : Result ℕ ℕ) → IsSearchInRange r n → Within n r
in_range n (Ok i) h = h
in_range n (Err i) h = h

module _ {X : Type 0} (key : X → ℕ) where
  -- what holds of the elements' keys holds in the row of keys
  pub at_keys : (P : ℕ → Type 0) (xs : List X) (low high : ℕ) → high ≤ length xs → AllWithin (λ y. P (key y)) xs low high → (k : ℕ) → low ≤ k → k < high → P (get_or (map key xs) k 0)
  at_keys P [] low high within h k le lt = absurd (omega arith)
  at_keys P (y ∷ ys) low high within h k le lt = subst P (sym (get_or-map key (y ∷ ys) k y 0 (omega arith))) (h k y le lt)

  pub keys_rise : (xs : List X) → rising_from 0 (map key xs) ≡ true → IsNonDecreasingBy key xs
  keys_rise xs r i j d le lt =
      let long = length-map xs key in
      omega (arith, rising_upto 0 (map key xs) r i j le (omega arith), get_or-map key xs i d 0 (omega arith), get_or-map key xs j d 0 lt)

  -- a binary search by key ends at the key, or at the gap for it
  pub searched : (xs : List X) (x : ℕ) (r : Result ℕ ℕ) → IsSearchInRange r (length xs) → IsBinarySearchResult (λ y. nat_cmp (key y) x) xs r → rising_from 0 (map key xs) ≡ true → Located (map key xs) x r
  searched xs x (Ok i) within equal up = (
    omega (arith, length-map xs key),
    at_keys (λ k. k ≡ x) xs i (i + 1) (omega arith) (λ k d le lt. let same : k ≡ i = omega arith in rw same (ranked _ x _ (sym (equal d)))) i (omega arith) (omega arith),
  )
  searched xs x (Err i) within parted up =
      let long = length-map xs key in
      let parts = parted (λ a b d le lt. let rise = keys_rise xs up a b d le lt in grind (arith, nat_tests)) in (
        omega arith,
        λ k lt. at_keys (λ k. k < x) xs 0 i within (λ k d le lt. ranked _ x _ (sym (parts.0 k d le lt))) k (omega arith) lt,
        λ k le lt. at_keys (λ k. x < k) xs i (length xs) (omega arith) (λ k d le lt. ranked _ x _ (sym (parts.1 k d le lt))) k le (omega arith),
      )

  -- a partition point by lesser keys is the cut
  pub parted_at : (xs : List X) (x i : ℕ) → i ≤ length xs → IsPartitionPoint (λ y. ltb (key y) x ≡ true) (λ y. ltb (key y) x ≡ false) xs i → Cut (map key xs) x i
  parted_at xs x i within parts =
      let long = length-map xs key in
      record {
        within = omega arith;
        before = λ k lt. at_keys (λ k. k < x) xs 0 i within (λ k d le lt. ltb-true _ x (parts.0 k d le lt)) k (omega arith) lt;
        after = λ k le lt. at_keys (λ k. x ≤ k) xs i (length xs) (omega arith) (λ k d le lt. ltb-false _ x (parts.1 k d le lt)) k le (omega arith);
      }

-- where a rising row has the number, it has it at the cut
pub cut_at : (start : ℕ) (xs : List ℕ) (x cut p : ℕ) → rising_from start xs ≡ true → Cut xs x cut → p < length xs → get_or xs p 0 ≡ x → cut ≡ p
cut_at start xs x cut p rising c lt e =
    elim (cases_order cut p) [
      | inl same ↦ same
      | inr q ↦
          elim q [
            | inl low ↦
                let up = rising_later start xs rising cut p low lt in
                let at = c.after cut (omega arith) (omega arith) in
                absurd (omega arith)
            | inr high ↦ let at = c.before p high in absurd (omega arith)
          ]
    ]
