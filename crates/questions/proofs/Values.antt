-- What the value of a question that is not refused hangs on, and that it lies within all.
use Rattle.std.proofs.Common.{◌≡◌, ℕ, ◌+◌, Bool, true, false, not, ◌&&◌, ◌||◌, List, [], ◌∷◌, get_or, None, refl, ap, ◌∙◌, subst, ⊎_elim, arith}
use Rattle.std.proofs.lemmas.Bool.{and_parts, or_cases, false≢true}
use Rattle.std.proofs.lemmas.Bool.Decides.{nat_tests}
use Rattle.std.specs.List.{AllByRecursion as All}
use Rattle.words.specs.declared.word.LowBits.TheVariants as low
use Rattle.words.specs.declared.word.WordKind.{WordKind}
use Rattle.words.specs.declared.word.WordKind.TheVariants as kind
use Rattle.words.specs.declared.word.WordRule.{WordRule}
use Rattle.words.specs.Words.{kind_number, low_bits, rule_of, taking}
use Rattle.questions.specs.Questions.{applied, applied_word, holds, parts_refusal, word_refusal, words_refusal, question_refusal, depth_after, on_top, on_two}
use Rattle.words.proofs.Chain.{each_passes}
use Rattle.questions.proofs.Table.{row_by_kind}

-- a name in a question that is not refused stands
stands : (standing : ℕ → Bool) (i d n : ℕ) → parts_refusal standing i d (taking 0) low.Serial n ≡ None → standing n ≡ true
stands standing i d n e = grind (arith, nat_tests)

pub name-stands : (standing : ℕ → Bool) (i d w : ℕ) → word_refusal standing i d w ≡ None → (rule_of (kind_number w)).kind ≡ kind.Name → standing (low_bits w) ≡ true
name-stands standing i d w fine is =
    let P : WordRule → Type 0 = λ r. parts_refusal standing i d r.effect r.low (low_bits w) ≡ None in
    stands standing i d (low_bits w) (subst P (row_by_kind (kind_number w) kind.Name is) fine)

applied_agrees : (named other : ℕ → Bool) (all : Bool) (of : WordKind) (k : ℕ) (entries : List Bool) → (of ≡ kind.Name → named k ≡ other k) → applied named all of k entries ≡ applied other all of k entries
applied_agrees named other all kind.Name k entries same = ap (λ b. b ∷ entries) (same refl)
applied_agrees named other all kind.And k entries same = refl
applied_agrees named other all kind.Or k entries same = refl
applied_agrees named other all kind.Not k entries same = refl
applied_agrees named other all kind.All k entries same = refl
applied_agrees named other all kind.Nothing k entries same = refl
applied_agrees named other all kind.Unused k entries same = refl
applied_agrees named other all kind.AnswerHead k entries same = refl
applied_agrees named other all kind.ImageHead k entries same = refl
applied_agrees named other all kind.Child k entries same = refl
applied_agrees named other all kind.Parent k entries same = refl
applied_agrees named other all kind.RingHead k entries same = refl
applied_agrees named other all kind.ImageEnd k entries same = refl

holds_agrees_from : (standing named other : ℕ → Bool) (all : Bool) → ((k : ℕ) → standing k ≡ true → named k ≡ other k) → (i d : ℕ) (entries : List Bool) (words : List ℕ) → words_refusal standing i d words ≡ None → holds named all entries words ≡ holds other all entries words
holds_agrees_from standing named other all same i d entries [] fine = refl
holds_agrees_from standing named other all same i d entries (w ∷ words) fine =
    let both = each_passes (word_refusal standing i d w ∷ words_refusal standing (i + 1) (depth_after d (rule_of (kind_number w)).effect) words ∷ []) fine in
    holds_agrees_from standing named other all same (i + 1) (depth_after d (rule_of (kind_number w)).effect) (applied_word named all w entries) words both.1.0
    ∙ ap (λ left. holds other all left words) (applied_agrees named other all (rule_of (kind_number w)).kind (low_bits w) entries (λ is. same (low_bits w) (name-stands standing i d w both.0 is)))

-- the value hangs on the values of the kinds that stand alone
pub holds_agrees : (standing named other : ℕ → Bool) (all : Bool) (words : List ℕ) → ((k : ℕ) → standing k ≡ true → named k ≡ other k) → question_refusal standing words ≡ None → holds named all [] words ≡ holds other all [] words
holds_agrees standing named other all words same fine = holds_agrees_from standing named other all same 0 0 [] words fine

-- an entry lies within all
abbrev Lies : Bool → Bool → Type 0
Lies all b = b ≡ true → all ≡ true

two_lie : (all : Bool) (f : Bool → Bool → Bool) → ((a b : Bool) → Lies all a → Lies all b → Lies all (f a b)) → (entries : List Bool) → All (Lies all) entries → All (Lies all) (on_two f entries)
two_lie all f keeps [] each = each
two_lie all f keeps (b ∷ []) each = each
two_lie all f keeps (b ∷ a ∷ rest) each = (keeps a b each.1.0 each.0, each.1.1)

top_lies : (all : Bool) (f : Bool → Bool) → ((a : Bool) → Lies all (f a)) → (entries : List Bool) → All (Lies all) entries → All (Lies all) (on_top f entries)
top_lies all f keeps [] each = each
top_lies all f keeps (a ∷ rest) each = (keeps a, each.1)

applied_lies : (named : ℕ → Bool) (all : Bool) (of : WordKind) (k : ℕ) (entries : List Bool) → (of ≡ kind.Name → Lies all (named k)) → All (Lies all) entries → All (Lies all) (applied named all of k entries)
applied_lies named all kind.Name k entries name each = (name refl, each)
applied_lies named all kind.And k entries name each = two_lie all ◌&&◌ (λ a b p q e. p (and_parts a b e).0) entries each
applied_lies named all kind.Or k entries name each = two_lie all ◌||◌ (λ a b p q e. ⊎_elim p q (or_cases a b e)) entries each
applied_lies named all kind.Not k entries name each = top_lies all (λ a. all && not a) (λ a e. (and_parts all (not a) e).0) entries each
applied_lies named all kind.All k entries name each = (λ e. e, each)
applied_lies named all kind.Nothing k entries name each = (λ e. absurd (false≢true e), each)
applied_lies named all kind.Unused k entries name each = each
applied_lies named all kind.AnswerHead k entries name each = each
applied_lies named all kind.ImageHead k entries name each = each
applied_lies named all kind.Child k entries name each = each
applied_lies named all kind.Parent k entries name each = each
applied_lies named all kind.RingHead k entries name each = each
applied_lies named all kind.ImageEnd k entries name each = each

first_lies : (all : Bool) (entries : List Bool) → All (Lies all) entries → Lies all (get_or entries 0 false)
first_lies all [] each = λ e. absurd (false≢true e)
first_lies all (b ∷ rest) each = each.0

holds_within_from : (standing named : ℕ → Bool) (all : Bool) → ((k : ℕ) → standing k ≡ true → Lies all (named k)) → (i d : ℕ) (entries : List Bool) (words : List ℕ) → All (Lies all) entries → words_refusal standing i d words ≡ None → Lies all (holds named all entries words)
holds_within_from standing named all within i d entries [] each fine = first_lies all entries each
holds_within_from standing named all within i d entries (w ∷ words) each fine =
    let both = each_passes (word_refusal standing i d w ∷ words_refusal standing (i + 1) (depth_after d (rule_of (kind_number w)).effect) words ∷ []) fine in
    holds_within_from standing named all within (i + 1) (depth_after d (rule_of (kind_number w)).effect) (applied_word named all w entries) words
    (applied_lies named all (rule_of (kind_number w)).kind (low_bits w) entries (λ is. within (low_bits w) (name-stands standing i d w both.0 is)) each)
    both.1.0

-- the value lies within all, where the values of the kinds that stand do
pub holds_within : (standing named : ℕ → Bool) (all : Bool) (words : List ℕ) → ((k : ℕ) → standing k ≡ true → named k ≡ true → all ≡ true) → question_refusal standing words ≡ None → holds named all [] words ≡ true → all ≡ true
holds_within standing named all words within fine = holds_within_from standing named all within 0 0 [] words tt fine
