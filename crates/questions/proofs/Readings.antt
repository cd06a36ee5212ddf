-- A question that is not refused reads as its value only.
use Rattle.std.proofs.Common.{◌≡◌, ℕ, ◌+◌, ◌*◌, ◌^◌, ◌<◌, ◌≤◌, Bool, false, not, ◌&&◌, ◌||◌, List, [], ◌∷◌, ◌++◌, length, get_or, Some, None, Option, sym, refl, ap, ◌∙◌, subst, append_assoc, append-nil, arith}
use Rattle.std.proofs.lemmas.Nat.{div-add-mod', div-mul-add, mod-mul-add, mod_below}
use Rattle.std.proofs.lemmas.Bool.Decides.{nat_tests}
use Rattle.words.proofs.Chain.{each_passes}
use Rattle.words.specs.declared.refusal.Refusal.{Refusal}
use Rattle.words.specs.declared.word.LowBits.{LowBits}
use Rattle.words.specs.declared.word.LowBits.TheVariants as low
use Rattle.words.specs.declared.word.StackEffect.{StackEffect}
use Rattle.words.specs.declared.word.WordKind.{WordKind}
use Rattle.words.specs.declared.word.WordKind.TheVariants as kind
use Rattle.words.specs.declared.word.WordRule.{WordRule}
use Rattle.words.specs.Words.{kind_number, low_bits, number_of, word_of, taking, rule_of}
use Rattle.questions.specs.Questions.{on_top, on_two, applied, applied_word, holds, parts_refusal, word_refusal, words_refusal, depth_after}
use Rattle.questions.specs.Readings.{Reads, name, whole, nothing, lack, meet, join, QuestionRead}
use Rattle.questions.proofs.Table.{row_of, row_by_kind}

-- wherever the words stand, they leave one entry more, which is x
abbrev Leaves : (ℕ → Bool) → Bool → List ℕ → Bool → Type 0
Leaves named all us x = (entries : List Bool) (rest : List ℕ) → holds named all entries (us ++ rest) ≡ holds named all (x ∷ entries) rest

-- the words so far are those that the entries were read from, one after another, the top's last
data Stacked (named : ℕ → Bool) (all : Bool) : List ℕ → List Bool → Type 0 where
  empty : Stacked named all [] []
  more : {done us : List ℕ} {entries : List Bool} {x : Bool} → Stacked named all done entries → Reads named all us x → Stacked named all (done ++ us) (x ∷ entries)

-- the same, and there are so many entries
abbrev Deep : (ℕ → Bool) → Bool → List ℕ → List Bool → ℕ → Type 0
Deep named all done entries depth = Stacked named all done entries × (length entries ≡ depth)

refused : (r : Refusal) → ◌≡◌ {A = Option Refusal} (Some r) None → ⊥
refused r e = let z : ◌≡◌ {A = ℕ} 0 1 = cc in omega arith

-- a word whose low bits have to be 0 is not refused: they are, and it finds what it takes
zero_asked : (standing : ℕ → Bool) (i d t n : ℕ) → parts_refusal standing i d (taking t) low.Zero n ≡ None → (n ≡ 0) × (t ≤ d)
zero_asked standing i d t n e = (grind (arith, nat_tests), grind (arith, nat_tests))

-- a word that is not refused has an effect
effect_of : (standing : ℕ → Bool) (i d : ℕ) (o : Option StackEffect) (lows : LowBits) (n : ℕ) → parts_refusal standing i d o lows n ≡ None → (e : StackEffect) × (o ≡ Some e)
effect_of standing i d None lows n fine = absurd (refused _ fine)
effect_of standing i d (Some e) lows n fine = (e, refl)

-- and its kind's number
number_by_effect : (n : ℕ) (e : StackEffect) → (rule_of n).effect ≡ Some e → n ≡ number_of (rule_of n).kind
number_by_effect n e s = grind arith

number_by_rule : (standing : ℕ → Bool) (i d w : ℕ) → word_refusal standing i d w ≡ None → kind_number w ≡ number_of (rule_of (kind_number w)).kind
number_by_rule standing i d w fine =
    let has = effect_of standing i d (rule_of (kind_number w)).effect (rule_of (kind_number w)).low (low_bits w) fine in
    number_by_effect (kind_number w) has.0 has.1

-- it is made of its kind and its low bits
word_is : (standing : ℕ → Bool) (i d w : ℕ) → word_refusal standing i d w ≡ None → word_of (rule_of (kind_number w)).kind (low_bits w) ≡ w
word_is standing i d w fine = ap (λ (n : ℕ). n * 2 ^ 28 + low_bits w) (sym (number_by_rule standing i d w fine)) ∙ div-add-mod' w (2 ^ 28)

module _ (named : ℕ → Bool) (all : Bool) where
  name_leaves : (k : ℕ) → k < 2 ^ 28 → Leaves named all (word_of kind.Name k ∷ []) (named k)
  name_leaves k h entries rest =
      let number : kind_number (word_of kind.Name k) ≡ 1 = div-mul-add 1 (2 ^ 28) k h in
      let bits : low_bits (word_of kind.Name k) ≡ k = mod-mul-add 1 (2 ^ 28) k h in
      ap (λ (n : ℕ). holds named all (applied named all (rule_of n).kind (low_bits (word_of kind.Name k)) entries) rest) number
      ∙ ap (λ (n : ℕ). holds named all (named n ∷ entries) rest) bits

  -- two operands leave two entries to the word after them
  two_leave : (w : ℕ) (us vs : List ℕ) (x y : Bool) → Leaves named all us x → Leaves named all vs y → (entries : List Bool) (rest : List ℕ) →
      holds named all entries (us ++ vs ++ w ∷ [] ++ rest) ≡ holds named all (y ∷ x ∷ entries) (w ∷ rest)
  two_leave w us vs x y first second entries rest =
      ap (holds named all entries) (append_assoc (us ++ vs) (w ∷ []) rest ∙ append_assoc us vs (w ∷ rest))
      ∙ first entries (vs ++ w ∷ rest)
      ∙ second (x ∷ entries) (w ∷ rest)

  reading_leaves : {us : List ℕ} {x : Bool} → Reads named all us x → Leaves named all us x
  reading_leaves (name k h) = name_leaves k h
  reading_leaves whole = λ entries rest. refl
  reading_leaves nothing = λ entries rest. refl
  reading_leaves (lack {us} r) =
      λ entries rest. ap (holds named all entries) (append_assoc us (word_of kind.Not 0 ∷ []) rest) ∙ reading_leaves r entries (word_of kind.Not 0 ∷ rest)
  reading_leaves (meet {us} {vs} {x} {y} r s) = two_leave (word_of kind.And 0) us vs x y (reading_leaves r) (reading_leaves s)
  reading_leaves (join {us} {vs} {x} {y} r s) = two_leave (word_of kind.Or 0) us vs x y (reading_leaves r) (reading_leaves s)

  -- every reading gives the value
  reading_holds : {us : List ℕ} {x : Bool} → Reads named all us x → x ≡ holds named all [] us
  reading_holds {us} r = sym (reading_leaves r [] []) ∙ ap (holds named all []) (append-nil us)

  put_keeps : {done us : List ℕ} {entries : List Bool} {x : Bool} → Stacked named all done entries → Reads named all us x →
      Deep named all (done ++ us) (x ∷ entries) (depth_after (length entries) (taking 0))
  put_keeps s r = (more s r, omega arith)

  top_keeps : (w : ℕ) (f : Bool → Bool) → ((us : List ℕ) (x : Bool) → Reads named all us x → Reads named all (us ++ w ∷ []) (f x)) →
      (done : List ℕ) (entries : List Bool) → 1 ≤ length entries → Stacked named all done entries →
      Deep named all (done ++ w ∷ []) (on_top f entries) (depth_after (length entries) (taking 1))
  top_keeps w f reads done [] enough s = absurd (omega arith)
  top_keeps w f reads done (x ∷ entries) enough (more {us} s r) = (rw append_assoc (more s (reads us x r)), omega arith)

  two_keep : (w : ℕ) (f : Bool → Bool → Bool) → ((us vs : List ℕ) (x y : Bool) → Reads named all us x → Reads named all vs y → Reads named all (us ++ vs ++ w ∷ []) (f x y)) →
      (done : List ℕ) (entries : List Bool) → 2 ≤ length entries → Stacked named all done entries →
      Deep named all (done ++ w ∷ []) (on_two f entries) (depth_after (length entries) (taking 2))
  two_keep w f reads done [] enough s = absurd (omega arith)
  two_keep w f reads done (y ∷ []) enough s = absurd (omega arith)
  two_keep w f reads done (y ∷ x ∷ entries) enough (more {us = vs} (more {us} s r) q) =
      (subst (λ (ws : List ℕ). Stacked named all ws (f x y ∷ entries)) (simp append_assoc) (more s (reads us vs x y r q)), omega arith)

  -- a word of this kind that is not refused
  kind_keeps : (standing : ℕ → Bool) (i n : ℕ) (of : WordKind) (done : List ℕ) (entries : List Bool) → n < 2 ^ 28 → Stacked named all done entries →
      parts_refusal standing i (length entries) (row_of of).effect (row_of of).low n ≡ None →
      Deep named all (done ++ word_of of n ∷ []) (applied named all of n entries) (depth_after (length entries) (row_of of).effect)
  kind_keeps standing i n kind.Name done entries h s fine = put_keeps s (name n h)
  kind_keeps standing i n kind.And done entries h s fine =
      let asked = zero_asked standing i (length entries) 2 n fine in rw asked.0 (two_keep (word_of kind.And 0) ◌&&◌ (λ us vs x y r q. meet r q) done entries asked.1 s)
  kind_keeps standing i n kind.Or done entries h s fine =
      let asked = zero_asked standing i (length entries) 2 n fine in rw asked.0 (two_keep (word_of kind.Or 0) ◌||◌ (λ us vs x y r q. join r q) done entries asked.1 s)
  kind_keeps standing i n kind.Not done entries h s fine =
      let asked = zero_asked standing i (length entries) 1 n fine in rw asked.0 (top_keeps (word_of kind.Not 0) (λ x. all && not x) (λ us x r. lack r) done entries asked.1 s)
  kind_keeps standing i n kind.All done entries h s fine = rw (zero_asked standing i (length entries) 0 n fine).0 (put_keeps s whole)
  kind_keeps standing i n kind.Nothing done entries h s fine = rw (zero_asked standing i (length entries) 0 n fine).0 (put_keeps s nothing)
  kind_keeps standing i n kind.Unused done entries h s fine = absurd (refused _ fine)
  kind_keeps standing i n kind.AnswerHead done entries h s fine = absurd (refused _ fine)
  kind_keeps standing i n kind.ImageHead done entries h s fine = absurd (refused _ fine)
  kind_keeps standing i n kind.Child done entries h s fine = absurd (refused _ fine)
  kind_keeps standing i n kind.Parent done entries h s fine = absurd (refused _ fine)
  kind_keeps standing i n kind.RingHead done entries h s fine = absurd (refused _ fine)
  kind_keeps standing i n kind.ImageEnd done entries h s fine = absurd (refused _ fine)

  word_keeps : (standing : ℕ → Bool) (i w : ℕ) (done : List ℕ) (entries : List Bool) → Stacked named all done entries →
      word_refusal standing i (length entries) w ≡ None →
      Deep named all (done ++ w ∷ []) (applied_word named all w entries) (depth_after (length entries) (rule_of (kind_number w)).effect)
  word_keeps standing i w done entries s fine =
      let of : WordKind = (rule_of (kind_number w)).kind in
      let rule : rule_of (kind_number w) ≡ row_of of = row_by_kind (kind_number w) of refl in
      let P : WordRule → Type 0 = λ r. parts_refusal standing i (length entries) r.effect r.low (low_bits w) ≡ None in
      let kept = kind_keeps standing i (low_bits w) of done entries (mod_below w (2 ^ 28) (omega arith)) s (subst P rule fine) in (
        subst (λ (v : ℕ). Stacked named all (done ++ v ∷ []) (applied_word named all w entries)) (word_is standing i (length entries) w fine) kept.0,
        kept.1 ∙ ap (λ (r : WordRule). depth_after (length entries) r.effect) (sym rule),
      )

  one_left : (done : List ℕ) (entries : List Bool) → length entries ≡ 1 → Stacked named all done entries → Reads named all done (get_or entries 0 false)
  one_left done [] e s = absurd (omega arith)
  one_left done (x ∷ []) e (more empty r) = r
  one_left done (x ∷ y ∷ entries) e s = absurd (omega arith)

  words_read : (standing : ℕ → Bool) (i : ℕ) (done : List ℕ) (entries : List Bool) (words : List ℕ) → Stacked named all done entries →
      words_refusal standing i (length entries) words ≡ None → Reads named all (done ++ words) (holds named all entries words)
  words_read standing i done entries [] s fine = rw append-nil (one_left done entries (grind (arith, nat_tests)) s)
  words_read standing i done entries (w ∷ words) s fine =
      let d : ℕ = depth_after (length entries) (rule_of (kind_number w)).effect in
      let passed = each_passes (word_refusal standing i (length entries) w ∷ words_refusal standing (i + 1) d words ∷ []) fine in
      let kept = word_keeps standing i w done entries s passed.0 in
      let later : words_refusal standing (i + 1) (length (applied_word named all w entries)) words ≡ None = rw kept.1 passed.1.0 in
      rw (append_assoc done (w ∷ []) words) at (words_read standing (i + 1) (done ++ w ∷ []) (applied_word named all w entries) words kept.0 later)

pub question_read : QuestionRead
question_read standing named all words fine =
    record { reading = words_read named all standing 0 [] [] words empty fine; only = λ v r. reading_holds named all r }
