-- Digits that are read one by one, and the digits that are written read back.
use Rattle.std.proofs.Common.{◌≡◌, ℕ, ◌+◌, ◌-◌, ◌*◌, ◌/◌, ◌%◌, ◌^◌, ◌<◌, ◌≤◌, Bool, true, false, cond, ◌&&◌, eqb, ltb, List, [], ◌∷◌, ◌++◌, map, length, get_or, drop, set, Some, None, decimal, Option, sym, refl, ap, ◌∙◌, le_refl, arith, rules}
use Rattle.std.specs.Str.Parse.{digits_value, digits_value_after, AllDigits}
use Rattle.std.specs.Char.{digit_value}
use Rattle.std.specs.Int.Digits.{AllBelowBase, number_from_digits as number, number_from_digits_after}
use Rattle.std.proofs.lemmas.Nat.{mul-le}
use Rattle.std.proofs.lemmas.Fmt.{decimal_is_IsNumeral, decimal_digit, decimal_step, decimal_nonempty, first_decimal, length-decimal-le}
use Rattle.std.proofs.lemmas.Int.Digits.{digits_value-lt}
use Rattle.std.proofs.lemmas.List.{drop_more, drop-set, length-drop, length-append, append_assoc}
use Rattle.std.proofs.lemmas.Bool.{lt-ltb, le-ltb, ltb-true, and_parts, and_right, and_from, eq-eqb, ne_eqb, cond-true, cond-false}
use Rattle.terminal.specs.Numbers.{all_digits, numeral_in, word_in, hex_digit, hex_digits, WritesDecimal}

-- the number that digits write behind those that wrote n, where it fits 32 bits
abbrev pub numeral_after : ℕ → ℕ → List ℕ → Option ℕ
numeral_after base n ds = cond (all_digits base ds && ltb (digits_value_after base n ds) (2 ^ 32)) (Some (digits_value_after base n ds)) None

pub after_digit : (base n b : ℕ) (bs : List ℕ) → digit_value b < base → numeral_after base n (b ∷ bs) ≡ numeral_after base (n * base + digit_value b) bs
after_digit base n b bs h = let t : ltb (digit_value b) base ≡ true = lt-ltb _ _ h in rw t

value_after_ge : (base n : ℕ) (ds : List ℕ) → 0 < base → n ≤ digits_value_after base n ds
value_after_ge base n [] h = le_refl n
value_after_ge base n (d ∷ ds) h = omega (arith, mul-le n 1 n base (le_refl n) h, value_after_ge base (n * base + digit_value d) ds h)

-- more digits make no number smaller
pub after_large : (base n : ℕ) (ds : List ℕ) → 0 < base → 2 ^ 32 ≤ n → numeral_after base n ds ≡ None
after_large base n ds h large =
    let over : 4294967296 ≤ digits_value_after base n ds = omega (arith, value_after_ge base n ds h) in
    let t : ltb (digits_value_after base n ds) 4294967296 ≡ false = le-ltb _ _ over in
    let u = and_right (all_digits base ds) (ltb (digits_value_after base n ds) 4294967296) t in
    rw u

pub digits_from_all : (base : ℕ) (ds : List ℕ) → all_digits base ds ≡ true → AllDigits base ds
digits_from_all base [] e = tt
digits_from_all base (d ∷ ds) e =
    let p = and_parts (ltb (digit_value d) base) (all_digits base ds) e in
    (ltb-true _ _ p.0, digits_from_all base ds p.1)

pub all_from_digits : (base : ℕ) (ds : List ℕ) → AllDigits base ds → all_digits base ds ≡ true
all_from_digits base [] e = refl
all_from_digits base (d ∷ ds) e = let t : ltb (digit_value d) base ≡ true = lt-ltb _ _ e.0 in rw t (all_from_digits base ds e.1)

-- one step of reading: a digit, and a digit that makes the number too large
pub numeral_more : (base n : ℕ) (field : List ℕ) (i b : ℕ) → i < length field → b ≡ get_or field i 0 → digit_value b < base → numeral_after base n (drop i field) ≡ numeral_after base (n * base + digit_value b) (drop (i + 1) field)
numeral_more base n field i b h e d = let more = drop_more field i 0 h in rw (more, ← e) (after_digit base n b (drop (i + 1) field) d)

pub numeral_large : (base n : ℕ) (field : List ℕ) (i b : ℕ) → i < length field → b ≡ get_or field i 0 → digit_value b < base → 2 ^ 32 ≤ n * base + digit_value b → numeral_after base n (drop i field) ≡ None
numeral_large base n field i b h e d large =
    numeral_more base n field i b h e d ∙ after_large base (n * base + digit_value b) (drop (i + 1) field) (omega arith) large

cond_first : (t u : Bool) (x : Option ℕ) → (t ≡ true → u ≡ true) → cond (t && u) x None ≡ cond t x None
cond_first true u x h = let e = h refl in rw e
cond_first false u x h = refl

-- eight hexadecimal digits always fit
pub word_fits : (field : List ℕ) → length field ≡ 8 → numeral_in 16 field ≡ word_in field
word_fits field len =
    let eight : eqb (length field) 8 ≡ true = eq-eqb _ _ len in
    let small : all_digits 16 field ≡ true → ltb (digits_value 16 field) 4294967296 ≡ true = λ e. lt-ltb _ _ (rw len at (digits_value-lt 16 field (digits_from_all 16 field e))) in
    rw eight (cond_first (all_digits 16 field) _ _ small)

digit_value_hex_digit : (d : ℕ) → d < 16 → digit_value (hex_digit d) ≡ d
digit_value_hex_digit d h = search rules

all_digits_hex : (ds : List ℕ) → AllBelowBase 16 ds → all_digits 16 (map hex_digit ds) ≡ true
all_digits_hex [] u = refl
all_digits_hex (d ∷ ds) u =
    let e = digit_value_hex_digit d u.0 in
    let t : ltb (digit_value (hex_digit d)) 16 ≡ true = lt-ltb _ _ (rw e u.0) in
    and_from _ _ t (all_digits_hex ds u.1)

value_after_hex : (n : ℕ) (ds : List ℕ) → AllBelowBase 16 ds → digits_value_after 16 n (map hex_digit ds) ≡ number_from_digits_after 16 n ds
value_after_hex n [] u = refl
value_after_hex n (d ∷ ds) u = ap (λ m. digits_value_after 16 (n * 16 + m) (map hex_digit ds)) (digit_value_hex_digit d u.0) ∙ value_after_hex (n * 16 + d) ds u.1

-- the values of a word's eight digits
abbrev pub nibbles : ℕ → List ℕ
nibbles w = w / 2 ^ 28 ∷ w / 2 ^ 24 % 16 ∷ w / 2 ^ 20 % 16 ∷ w / 2 ^ 16 % 16 ∷ w / 2 ^ 12 % 16 ∷ w / 2 ^ 8 % 16 ∷ w / 2 ^ 4 % 16 ∷ w % 16 ∷ []

under_nibbles : (w : ℕ) → w < 2 ^ 32 → AllBelowBase 16 (nibbles w)
under_nibbles w h = (omega arith, (omega arith, (omega arith, (omega arith, (omega arith, (omega arith, (omega arith, (omega arith, tt))))))))

number_nibbles : (w : ℕ) → number 16 (nibbles w) ≡ w
number_nibbles w = omega arith

-- a word that is written is read back
pub word_in_hex_digits : (w : ℕ) → w < 2 ^ 32 → word_in (hex_digits w) ≡ Some w
word_in_hex_digits w h =
    let u = under_nibbles w h in
    let all : all_digits 16 (hex_digits w) ≡ true = all_digits_hex (nibbles w) u in
    let worth : digits_value 16 (hex_digits w) ≡ w = value_after_hex 0 (nibbles w) u ∙ number_nibbles w in
    cond-true (all_digits 16 (hex_digits w)) _ _ all ∙ ap Some worth

-- a decimal number that is written is read back
pub writes_decimal : (n : ℕ) → n < 2 ^ 64 → WritesDecimal n (decimal n)
writes_decimal n h =
    let reads = decimal_is_IsNumeral n h in
    let all = all_from_digits 10 (decimal n) reads.0.1 in
    let some : eqb (length (decimal n)) 0 ≡ false = ne_eqb _ _ (λ e. omega (arith, decimal_nonempty n h)) in
    record {
      all = all;
      worth = reads.1;
      first = λ p. first_decimal n p h;
      one = λ e. rw e (decimal_digit 0 (omega arith));
      back = λ small.
          let t : ltb (digits_value 10 (decimal n)) 4294967296 ≡ true = lt-ltb _ _ (rw reads.1 small) in
          cond-false _ _ _ some ∙ cond-true _ _ _ (and_from _ _ all t) ∙ ap Some reads.1;
    }

-- twenty places are enough for the digits of 64 bits
pub room : (number left at : ℕ) (ds : List ℕ) → number < 2 ^ 64 → left ≤ number → length ds ≡ 20 → at ≤ 20 → decimal left ++ drop at ds ≡ decimal number → 1 ≤ at
room number left at ds h l len within e =
    let most = length-decimal-le 20 number (omega arith) (omega arith) h in
    let some = decimal_nonempty left (omega arith) in
    let sum : length (decimal left) + (length ds - at) ≡ length (decimal number) = simp (length-append, length-drop) at (ap length e) in
    omega arith

put_before : (at y : ℕ) (ds : List ℕ) → 1 ≤ at → at ≤ length ds → drop (at - 1) (set ds (at - 1) y) ≡ y ∷ drop at ds
put_before at y ds h within =
    let inside : at - 1 < length ds = omega arith in
    let same : at - 1 + 1 ≡ at = omega arith in
    drop-set ds (at - 1) y inside ∙ ap (λ n. y ∷ drop n ds) same

-- the last digit of what is left goes before the digits that stand
pub digit_more : (left at : ℕ) (ds : List ℕ) → 10 ≤ left → left < 2 ^ 64 → 1 ≤ at → at ≤ length ds → decimal (left / 10) ++ drop (at - 1) (set ds (at - 1) (48 + left % 10)) ≡ decimal left ++ drop at ds
digit_more left at ds large fits h within =
    ap (λ b. decimal (left / 10) ++ b) (put_before at (48 + left % 10) ds h within)
    ∙ sym (ap (λ b. b ++ drop at ds) (decimal_step left large fits) ∙ append_assoc (decimal (left / 10)) ((48 + left % 10) ∷ []) (drop at ds))

pub digit_last : (left at : ℕ) (ds : List ℕ) → left < 10 → 1 ≤ at → at ≤ length ds → drop (at - 1) (set ds (at - 1) (48 + left)) ≡ decimal left ++ drop at ds
digit_last left at ds small h within =
    put_before at (48 + left) ds h within ∙ sym (ap (λ b. b ++ drop at ds) (decimal_digit left small))
