-- Words that are read one by one, and words that are written behind spaces read back.
use Rattle.std.proofs.Common.{◌≡◌, ℕ, suc, ◌^◌, ◌<◌, ◌≤◌, false, List, [], ◌∷◌, ◌++◌, map, get_or, is_some, ◌&&◌, Some, None, Option, sym, refl, ap, ◌∙◌, append-nil, arith, rules}
use Rattle.std.specs.List.{flat_map, list_all}
use Rattle.std.proofs.lemmas.Bool.{or_from, ne_eqb}
use Rattle.terminal.specs.Fields.{is_space, any_space, whole, fields_after}
use Rattle.terminal.specs.Lists.{before, words_in, spaced, ReadsBack}
use Rattle.terminal.specs.Numbers.{word_in, hex_digit, hex_digits}
use Rattle.terminal.proofs.Digits.{nibbles, word_in_hex_digits}
use Rattle.terminal.proofs.Splits.{run_all}

-- words that are read already, before those that follow
abbrev pub behind : List ℕ → Option (List ℕ) → Option (List ℕ)
behind words (Some more) = Some (words ++ more)
behind words None = None

-- all the fields are words exactly where each is one
pub all_words_in : (fields : List (List ℕ)) → list_all (λ field. is_some (word_in field)) fields ≡ is_some (words_in fields)
all_words_in [] = refl
all_words_in (field ∷ fields) = rw (all_words_in fields) (by (word_in field) (words_in fields))
  where
    by : (word : Option ℕ) (words : Option (List ℕ)) → (is_some word && is_some words) ≡ is_some (before word words)
    by (Some word) (Some words) = refl
    by (Some word) None = refl
    by None words = refl

-- a digit is no space
is_space-hex_digit : (d : ℕ) → is_space (hex_digit d) ≡ false
is_space-hex_digit d =
    let large : 48 ≤ hex_digit d = search rules in
    or_from _ _ (or_from _ _ (ne_eqb _ _ (λ (e : hex_digit d ≡ 32). omega arith)) (ne_eqb _ _ (λ (e : hex_digit d ≡ 9). omega arith))) (ne_eqb _ _ (λ (e : hex_digit d ≡ 13). omega arith))

any_space_hex : (ds : List ℕ) → any_space (map hex_digit ds) ≡ false
any_space_hex [] = refl
any_space_hex (d ∷ ds) = or_from _ _ (is_space-hex_digit d) (any_space_hex ds)

-- items with no space in them, each behind a space, are fields of their own
fields_joined : (f : ℕ → List ℕ) → ((x : ℕ) → any_space (f x) ≡ false) → ((x : ℕ) → whole (f x) ≡ f x ∷ []) → (begun xs : List ℕ) → fields_after begun (flat_map (λ x. 32 ∷ f x) xs) ≡ whole begun ++ map f xs
fields_joined f plain some begun [] = sym (append-nil (whole begun))
fields_joined f plain some begun (x ∷ xs) =
    ap (λ fs. whole begun ++ fs)
    (run_all [] (f x) (flat_map (λ y. 32 ∷ f y) xs) (plain x) ∙ fields_joined f plain some (f x) xs ∙ ap (λ fs. fs ++ map f xs) (some x))

words_in_hex_digits : (words : List ℕ) → ((i : ℕ) → get_or words i 0 < 2 ^ 32) → words_in (map hex_digits words) ≡ Some words
words_in_hex_digits [] fits = refl
words_in_hex_digits (w ∷ words) fits =
    ap (λ o. before o (words_in (map hex_digits words))) (word_in_hex_digits w (fits 0))
    ∙ ap (λ o. before (Some w) o) (words_in_hex_digits words (λ i. fits (suc i)))

pub reads_back : (words : List ℕ) → ((i : ℕ) → get_or words i 0 < 2 ^ 32) → ReadsBack words
reads_back words fits =
    record {
      apart = λ name plain.
          run_all [] name (spaced words) plain ∙ fields_joined hex_digits (λ w. any_space_hex (nibbles w)) (λ w. refl) name words;
      same = words_in_hex_digits words fits;
    }
