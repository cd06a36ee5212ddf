-- What the operations on words of 64 bits do to each digit, by std's laws of bits.
use Rattle.std.proofs.Common.{◌≡◌, ℕ, ◌+◌, ◌-◌, ◌*◌, ◌/◌, ◌%◌, ◌^◌, ◌<◌, ◌≤◌, true, false, not, ◌&&◌, ◌||◌, eqb, ◌≢◌, sym, ap, ◌∙◌, subst, ⊎_elim, arith, w64}
use lib.Bits.{bit_and, bit_or}
use lib.Count.{count_trailing_zeros}
use Rattle.std.proofs.lemmas.Nat.{shr-shr}
use Rattle.std.proofs.lemmas.Nat.Bits as laws
use Rattle.std.proofs.lemmas.Bool.{cases_eq, cases_lt, both_ways}
use Rattle.std.proofs.lemmas.Bool.Decides.{nat_tests}
use Rattle.bits.specs.Bits.{bit_at}

pub digit_and : (m n p : ℕ) → bit_at (bit_and m n) p ≡ (bit_at m p && bit_at n p)
digit_and m n p = let both = laws.bit_at_and m n p in grind (arith, nat_tests)

pub digit_or : (m n p : ℕ) → bit_at (bit_or m n) p ≡ (bit_at m p || bit_at n p)
digit_or m n p = let either = laws.bit_at_or m n p in grind (arith, nat_tests)

pub digit_not : (n p : ℕ) → n < 2 ^ 64 → p < 64 → bit_at ((2 ^ 64 - 1) - n) p ≡ not (bit_at n p)
digit_not n p h l = let other = laws.bit_at_not w64 n p h l in grind (arith, nat_tests)

pub digit_zero : (p : ℕ) → bit_at 0 p ≡ false
digit_zero p = ap (λ (d : ℕ). eqb d 1) (laws.bit_at-zero p)

-- `n | (1 << k)` and `n & !(1 << k)`
pub digit_put : (n k p : ℕ) → k < 64 → bit_at (bit_or n ((1 * 2 ^ k) % 2 ^ 64)) p ≡ (eqb p k || bit_at n p)
digit_put n k p h = ⊎_elim
    (λ (e : p ≡ k). subst (λ (q : ℕ). bit_at (bit_or n ((1 * 2 ^ k) % 2 ^ 64)) q ≡ (eqb q k || bit_at n q)) (sym e)
    (let set = laws.bit_at_set_same w64 n k h in grind (arith, nat_tests)))
    (λ (ne : p ≢ k). let kept = laws.bit_at_set_other w64 n k h p ne in grind (arith, nat_tests))
    (cases_eq p k)

pub digit_take : (n k p : ℕ) → k < 64 → p < 64 → bit_at (bit_and n ((2 ^ 64 - 1) - (1 * 2 ^ k) % 2 ^ 64)) p ≡ (not (eqb p k) && bit_at n p)
digit_take n k p h l = ⊎_elim
    (λ (e : p ≡ k). subst (λ (q : ℕ). bit_at (bit_and n ((2 ^ 64 - 1) - (1 * 2 ^ k) % 2 ^ 64)) q ≡ (not (eqb q k) && bit_at n q)) (sym e)
    (let clear = laws.bit_at_clear_same w64 n k h in grind (arith, nat_tests)))
    (λ (ne : p ≢ k). let kept = laws.bit_at_clear_other w64 n k h p l ne in grind (arith, nat_tests))
    (cases_eq p k)

-- a number is known by its digits
pub digits_tell : (m n : ℕ) → m < 2 ^ 64 → n < 2 ^ 64 → ((p : ℕ) → p < 64 → bit_at m p ≡ bit_at n p) → m ≡ n
digits_tell m n h k same = laws.same_from_bits_below 64 m n h k (λ p l. let digit = same p l in grind (arith, nat_tests))

-- a digit that is 1 stands below the width
pub digit_below : (n p : ℕ) → n < 2 ^ 64 → bit_at n p ≡ true → p < 64
digit_below n p h e = ⊎_elim
    (λ (l : p < 64). l)
    (λ (l : 64 ≤ p). absurd (both_ways (bit_at n p) (ap (λ (d : ℕ). eqb d 1) (laws.bit_at_above n 64 p h l)) e))
    (cases_lt p 64)

-- a shift to the right renumbers the digits
pub digit_shifted : (n a p : ℕ) → a ≤ p → bit_at n p ≡ bit_at (n / 2 ^ a) (p - a)
digit_shifted n a p h =
    ap (λ (e : ℕ). bit_at n e) (let parts : p ≡ a + (p - a) = omega arith in parts) ∙ ap (λ (m : ℕ). eqb (m % 2) 1) (sym (shr-shr n a (p - a)))

-- `trailing_zeros` is the place of the lowest digit that is 1
pub zeros_end : (n : ℕ) → 0 < n → n < 2 ^ 64 → bit_at n (count_trailing_zeros 64 n) ≡ true
zeros_end n some h = ap (λ (d : ℕ). eqb d 1) (laws.bit_at-trailing_zeros w64 n some h).1

pub zeros-before : (n p : ℕ) → 0 < n → n < 2 ^ 64 → p < count_trailing_zeros 64 n → bit_at n p ≡ false
zeros-before n p some h l = ap (λ (d : ℕ). eqb d 1) ((laws.bit_at-trailing_zeros w64 n some h).2 p l)
