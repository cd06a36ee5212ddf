-- The names of the kinds that pass a test, kind by kind.
use Rattle.std.proofs.Common.{◌≡◌, ℕ, suc, ◌+◌, ◌^◌, ◌<◌, ◌≤◌, Bool, true, false, cond, List, [], ◌∷◌, ◌++◌, map, length, get_or, take, drop, set, filter, sym, refl, ap, ◌∙◌, ap₂, add-one, arith}
use lib.Seq.{paste}
use Rattle.std.proofs.lemmas.List.Edits.{paste-paste, paste_all}
use Rattle.std.proofs.lemmas.List.Elements.{filter_more}
use Rattle.std.proofs.lemmas.List.{append_assoc, append-nil, set_split, length-map, length_push, map_push, get_or-map}
use Rattle.descent.specs.declared.kind.Kind.{Kind}
use Rattle.descent.specs.declared.standing.Standing.{Standing}
use Rattle.descent.specs.Proper.{below}
use Rattle.descent.proofs.Proper.{below_at}
use Rattle.words.specs.declared.word.WordKind.TheVariants.{Name}
use Rattle.words.specs.Words.{low_bits, word_of}
use Rattle.asking.specs.Decoding.{names_of}

-- one word written behind those that are there
pub paste_one : (d s : List ℕ) (at n x : ℕ) → n ≡ length s → at + n < length (paste d at s n) → at ≤ length d → set (paste d at s n) (at + n) x ≡ paste d at (s ++ x ∷ []) (n + 1)
paste_one d s at n x e l within = set-paste (paste d at s n) (at + n) x l ∙ paste-paste d at s (x ∷ []) n 1 e refl within
  where
    set-paste : (ys : List ℕ) (i y : ℕ) → i < length ys → set ys i y ≡ paste ys i (y ∷ []) 1
    set-paste ys i y m = set_split ys i y m ∙ ap (λ (j : ℕ). take i ys ++ y ∷ drop j ys) (sym (add-one i)) ∙ sym (append_assoc (take i ys) (y ∷ []) (drop (i + 1) ys))

-- a head written before names that stand behind its place
pub headed : (old names : List ℕ) (n word : ℕ) → n ≡ length names → 1 ≤ length old → set (paste old 1 names n) 0 word ≡ word ∷ names ++ drop (suc n) old
headed [] names n word e l = absurd (omega arith)
headed (o ∷ old) names n word e l =
    let k : 1 + n ≡ suc n = omega arith in
    ap (λ (ys : List ℕ). set ys 0 word) (paste_all (o ∷ old) 1 names n e) ∙ ap (λ (m : ℕ). word ∷ names ++ drop m (o ∷ old)) k

-- each number of the kinds is below what all are below
pub each_below : (value : Kind → ℕ) (w : ℕ) (kinds : List Kind) (i : ℕ) (d : Kind) → below w (map value kinds) ≡ true → i < length kinds →
    value (get_or kinds i d) < w
each_below value w kinds i d low lt =
    let long = length-map kinds value in
    let is = get_or-map value kinds i d 0 lt in
    let h = below_at w (map value kinds) low i (omega arith) in
    omega arith

-- a kind's place has a row, where there is one for each place
pub place_within : (st : Standing) (rows i : ℕ) (d : Kind) → st.width ≤ rows → i < length st.kinds.now → (get_or st.kinds.now i d).place < rows
place_within st rows i d room lt = omega (arith, each_below (λ k. k.place) st.width st.kinds.now i d st.low lt)

-- the names of the kinds that pass, among so many of them, are written behind the place of a head
pub record Written (test : ℕ → Bool) (kinds : List Kind) (old : List ℕ) (upto : ℕ) (answer : List ℕ) (n : ℕ) : Type 0 where
  pub few : n ≤ upto
  pub count : n ≡ length (names_of test (take upto kinds))
  pub list : answer ≡ paste old 1 (names_of test (take upto kinds)) n

module _ (test : ℕ → Bool) (kinds : List Kind) (i : ℕ) (d : Kind) (lt : i < length kinds) where
  names_next : (b : Bool) → test (get_or kinds i d).place ≡ b →
      names_of test (take (i + 1) kinds)
      ≡ map (λ k. word_of Name k.serial) (filter (λ k. test k.place) (take i kinds) ++ cond b (get_or kinds i d ∷ []) [])
  names_next b e =
      ap (map (λ k. word_of Name k.serial))
      (filter_more (λ k. test k.place) kinds i d lt
      ∙ ap (λ t. filter (λ k. test k.place) (take i kinds) ++ cond t (get_or kinds i d ∷ []) []) e)

  names_more : test (get_or kinds i d).place ≡ true →
      names_of test (take (i + 1) kinds) ≡ names_of test (take i kinds) ++ word_of Name (get_or kinds i d).serial ∷ []
  names_more e = names_next true e ∙ map_push (λ k. word_of Name k.serial) (filter (λ k. test k.place) (take i kinds)) (get_or kinds i d)

  names_same : test (get_or kinds i d).place ≡ false → names_of test (take (i + 1) kinds) ≡ names_of test (take i kinds)
  names_same e = names_next false e ∙ ap (map (λ k. word_of Name k.serial)) (append-nil (filter (λ k. test k.place) (take i kinds)))

  -- a kind that passes is written behind the others
  pub written_more : (old answer answer' : List ℕ) (n n' word : ℕ) → Written test kinds old i answer n → test (get_or kinds i d).place ≡ true →
      (get_or kinds i d).serial < 2 ^ 28 → length kinds + 1 ≤ length old → length answer ≡ length old → word ≡ word_of Name (low_bits (get_or kinds i d).serial) →
      n' ≡ n + 1 → answer' ≡ set answer (1 + n) word → Written test kinds old (i + 1) answer' n'
  written_more old answer answer' n n' word so e small room long w f g =
      let names = names_of test (take i kinds) in
      let x = (get_or kinds i d).serial in
      let more = names_more e in
      let low : low_bits x ≡ x = omega arith in
      let written : set (paste old 1 names n) (1 + n) (word_of Name x) ≡ paste old 1 (names ++ word_of Name x ∷ []) (n + 1) =
      paste_one old names 1 n (word_of Name x) so.count (omega (arith, ap length so.list)) (omega arith) in
      record {
        few = omega (arith, so.few);
        count = omega (arith, so.count, ap length more, length_push names (word_of Name x));
        list =
            g ∙ ap₂ (λ (ys : List ℕ) (y : ℕ). set ys (1 + n) y) so.list (w ∙ ap (word_of Name) low) ∙ written
            ∙ ap₂ (λ (ys : List ℕ) (m : ℕ). paste old 1 ys m) (sym more) (sym f);
      }

  -- another is passed over
  pub written_same : (old answer answer' : List ℕ) (n n' : ℕ) → Written test kinds old i answer n → test (get_or kinds i d).place ≡ false →
      n' ≡ n → answer' ≡ answer → Written test kinds old (i + 1) answer' n'
  written_same old answer answer' n n' so e f g =
      let same = names_same e in
      record {
        few = omega (arith, so.few);
        count = f ∙ so.count ∙ ap length (sym same);
        list = g ∙ so.list ∙ ap₂ (λ (ys : List ℕ) (m : ℕ). paste old 1 ys m) (sym same) (sym f);
      }
