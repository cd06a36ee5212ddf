-- A word's four bytes determine the word, and a file's bytes its words.
use Rattle.std.proofs.Common.{◌≡◌, ℕ, zero, suc, ◌+◌, ◌*◌, ◌/◌, ◌%◌, ◌^◌, ◌<◌, ◌≤◌, List, [], ◌∷◌, ◌++◌, length, get_or, take, drop, sym, refl, ap, subst, ◌∙◌, ⊎_elim, append_assoc, arith, w32}
use Rattle.std.proofs.lemmas.Bool.{cases_lt}
use Rattle.std.proofs.lemmas.List.{flat_map_more, take_more, get_or-drop, get_or-take, get_or_past, length-drop, length-take, length-take-le, drop-drop}
use Rattle.std.proofs.lemmas.Nat.{be_bytes_4}
use Rattle.std.proofs.Math.Seq.{take-add}
use Rattle.std.specs.Simd.{first_chunks}
use Rattle.std.specs.Int.{to_be_bytes, from_be_bytes}
use Rattle.words.specs.Files.{word_bytes, bytes_of}

-- the first byte of a word of 32 bits is a byte as it stands
to_be_bytes-is : (w : ℕ) → w < 2 ^ 32 → to_be_bytes w32 w ≡ word_bytes w
to_be_bytes-is w h = let e : w / 16777216 % 256 ≡ w / 16777216 = omega arith in rw e

same_word : (v w : ℕ) → v / 2 ^ 24 ≡ w / 2 ^ 24 → v / 2 ^ 16 % 256 ≡ w / 2 ^ 16 % 256 → v / 2 ^ 8 % 256 ≡ w / 2 ^ 8 % 256 → v % 256 ≡ w % 256 → v ≡ w
same_word v w e0 e1 e2 e3 = omega arith

-- other words have other bytes
pub same_from_bytes_of : (xs ys : List ℕ) → bytes_of xs ≡ bytes_of ys → xs ≡ ys
same_from_bytes_of [] [] e = refl
same_from_bytes_of [] (y ∷ ys) e = cc
same_from_bytes_of (x ∷ xs) [] e = cc
same_from_bytes_of (x ∷ xs) (y ∷ ys) e =
    let e0 : x / 16777216 ≡ y / 16777216 = cc in
    let e1 : x / 65536 % 256 ≡ y / 65536 % 256 = cc in
    let e2 : x / 256 % 256 ≡ y / 256 % 256 = cc in
    let e3 : x % 256 ≡ y % 256 = cc in
    let rest : bytes_of xs ≡ bytes_of ys = cc in
    let first = same_word x y e0 e1 e2 e3 in
    let more = same_from_bytes_of xs ys rest in
    cc

-- one word more
pub bytes_of_push : (ws : List ℕ) (w : ℕ) → bytes_of (ws ++ w ∷ []) ≡ bytes_of ws ++ word_bytes w
bytes_of_push ws w = sym (flat_map_more word_bytes [] ws w)

pub bytes_of_lem : (ws : List ℕ) (w : ℕ) (rest four : List ℕ) → word_bytes w ≡ four → bytes_of (ws ++ w ∷ []) ++ rest ≡ bytes_of ws ++ (four ++ rest)
bytes_of_lem ws w rest four e =
    ap (λ b. b ++ rest) (bytes_of_push ws w ∙ ap (λ b. bytes_of ws ++ b) e) ∙ append_assoc (bytes_of ws) four rest

pub bytes_of_more : (words : List ℕ) (i : ℕ) → i < length words → get_or words i 0 < 2 ^ 32
    → bytes_of (take (i + 1) words) ≡ bytes_of (take i words) ++ to_be_bytes w32 (get_or words i 0)
bytes_of_more words i h fits =
    rw (take_more words i 0) (bytes_of_push (take i words) (get_or words i 0) ∙ ap (λ b. bytes_of (take i words) ++ b) (sym (to_be_bytes-is (get_or words i 0) fits)))

-- the word that four bytes make has those bytes
chunk_bytes : (four : List ℕ) → length four ≡ 4 → ((j : ℕ) → get_or four j 0 < 256) → word_bytes (from_be_bytes w32 four) ≡ four
chunk_bytes four l small =
    sym (to_be_bytes-is (from_be_bytes w32 four) (omega (arith, small 0, small 1, small 2, small 3))) ∙ be_bytes_4 four (from_be_bytes w32 four) l small refl

take_small : (n : ℕ) (xs : List ℕ) → ((j : ℕ) → get_or xs j 0 < 256) → (j : ℕ) → get_or (take n xs) j 0 < 256
take_small n xs small j = ⊎_elim
    (λ (l : j < n). subst (λ b. b < 256) (sym (get_or-take n xs j 0 l)) (small j))
    (λ (l : n ≤ j). subst (λ b. b < 256) (sym (get_or_past (take n xs) j 0 (omega (arith, length-take n xs)))) (omega arith))
    (cases_lt j n)

chunk_at : (n i : ℕ) (xs : List ℕ) → i < n → get_or (first_chunks 4 n xs) i [] ≡ take 4 (drop (i * 4) xs)
chunk_at zero i xs l = absurd (omega arith)
chunk_at (suc n) zero xs l = refl
chunk_at (suc n) (suc i) xs l =
    let on : 4 + i * 4 ≡ suc i * 4 = omega arith in
    chunk_at n i (drop 4 xs) (omega arith) ∙ ap (λ r. take 4 r) (drop-drop (i * 4) 4 xs ∙ ap (λ k. drop k xs) on)

-- one chunk more
pub decode_more : (ws bytes : List ℕ) (i : ℕ) → ((k : ℕ) → get_or bytes k 0 < 256) → i < length bytes / 4 → bytes_of ws ≡ take (i * 4) bytes
    → bytes_of (ws ++ from_be_bytes w32 (get_or (first_chunks 4 (length bytes / 4) bytes) i []) ∷ []) ≡ take ((i + 1) * 4) bytes
decode_more ws bytes i small l e =
    let left = drop (i * 4) bytes in
    let at = chunk_at (length bytes / 4) i bytes l in
    let byte = take_small 4 left (λ j. subst (λ b. b < 256) (sym (get_or-drop (i * 4) bytes j 0)) (small (i * 4 + j))) in
    let chunk = chunk_bytes (take 4 left) (length-take-le 4 left (omega (arith, length-drop (i * 4) bytes))) byte in
    let ends : (i + 1) * 4 ≡ i * 4 + 4 = omega arith in
    rw (at, ends, take-add (i * 4) 4 bytes) (bytes_of_push ws (from_be_bytes w32 (take 4 left)) ∙ (λ k. e k ++ chunk k))
