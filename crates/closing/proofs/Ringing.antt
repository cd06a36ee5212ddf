-- The words of a ring, as they are written one by one.
use Rattle.std.proofs.Common.{◌≡◌, ℕ, ◌+◌, ◌^◌, ◌<◌, true, eqb, ltb, List, [], ◌∷◌, ◌++◌, map, length, get_or, drop, set, sym, ap, ◌∙◌, inl, inr, mod-eq_of_lt, arith}
use Rattle.std.proofs.lemmas.List.{drop_more, set_at, append_assoc}
use Rattle.std.proofs.lemmas.Bool.{and_parts, ltb-true, cases_Bool}
use Rattle.descent.specs.declared.kind.Kind.{Kind}
use Rattle.descent.specs.declared.standing.Standing.{Standing}
use Rattle.descent.specs.Proper.{below}
use Rattle.words.specs.Words.{low_bits}
use Rattle.closing.specs.Direct.{found, serial_at}

pub write_more : (xs d : List ℕ) (n v : ℕ) → length xs ≡ n → n < length d →
    set (xs ++ drop n d) n v ≡ (xs ++ v ∷ []) ++ drop (n + 1) d
write_more xs d n v e lt =
    ap (λ ys. set (xs ++ ys) n v) (drop_more d n 0 lt)
    ∙ set_at xs (get_or d n 0) (drop (n + 1) d) v n e
    ∙ sym (append_assoc xs (v ∷ []) (drop (n + 1) d))

pub low_bits_same : (x : ℕ) → x < 2 ^ 28 → low_bits x ≡ x
low_bits_same x lt = mod-eq_of_lt lt

found_low : (n : ℕ) (key value : Kind → ℕ) (kinds : List Kind) (x : ℕ) → 0 < n → below n (map value kinds) ≡ true →
    found key value kinds x < n
found_low n key value [] x pos b = pos
found_low n key value (k ∷ ks) x pos b =
    let p = and_parts (ltb (value k) n) (below n (map value ks)) b in
    let here = ltb-true (value k) n p.0 in
    elim (cases_Bool (eqb (key k) x)) [ inl e ↦ rw e here | inr e ↦ rw e (found_low n key value ks x pos p.1) ]

pub serial_at_low : (st : Standing) (p : ℕ) → serial_at st.kinds.now p < 2 ^ 28
serial_at_low st p = found_low (2 ^ 28) (λ k. k.place) (λ k. k.serial) st.kinds.now p (omega arith) st.serials
