-- What a question holds at one place, and when it is refused.
use Rattle.std.specs.Prelude.{ℕ, ◌+◌, ◌-◌, Bool, false, not, ◌&&◌, ◌||◌, List, [], ◌∷◌, length, Some, None, Option, ◌==◌, nat_lt, slice_index_or}
use Rattle.words.specs.declared.refusal.Part.TheVariants as part
use Rattle.words.specs.declared.refusal.Refusal.{Refusal}
use Rattle.words.specs.declared.word.WordKind.{WordKind}
use Rattle.words.specs.declared.word.WordKind.TheVariants.{Unused, Name, And, Or, Not, All, Nothing, AnswerHead, ImageHead, Child, Parent, RingHead, ImageEnd}
use Rattle.words.specs.declared.word.LowBits.{LowBits}
use Rattle.words.specs.declared.word.LowBits.TheVariants as low
use Rattle.words.specs.declared.word.StackEffect.{StackEffect}
use Rattle.words.specs.Refusals.{refusal, first_of, refuse_if, serial_refusal}
use Rattle.words.specs.Words.{kind_number, low_bits, rule_of}

-- the most words of a question, and the most entries at a time
abbrev pub most_words : ℕ
most_words = 1024

abbrev pub most_entries : ℕ
most_entries = 32

-- the entry on top is replaced
abbrev pub on_top : (Bool → Bool) → List Bool → List Bool
on_top f [] = []
on_top f (a ∷ rest) = f a ∷ rest

-- the two on top are replaced by one; b was left after a
abbrev pub on_two : (Bool → Bool → Bool) → List Bool → List Bool
on_two f [] = []
on_two f (b ∷ []) = b ∷ []
on_two f (b ∷ a ∷ rest) = f a b ∷ rest

-- what a word of this kind makes of the entries, the top first: whether a place is in each of them
abbrev pub applied : (ℕ → Bool) → Bool → WordKind → ℕ → List Bool → List Bool
applied named all Name k entries = named k ∷ entries
applied named all And k entries = on_two ◌&&◌ entries
applied named all Or k entries = on_two ◌||◌ entries
applied named all Not k entries = on_top (λ a. all && not a) entries
applied named all All k entries = all ∷ entries
applied named all Nothing k entries = false ∷ entries
applied named all Unused k entries = entries
applied named all AnswerHead k entries = entries
applied named all ImageHead k entries = entries
applied named all Child k entries = entries
applied named all Parent k entries = entries
applied named all RingHead k entries = entries
applied named all ImageEnd k entries = entries

abbrev pub applied_word : (ℕ → Bool) → Bool → ℕ → List Bool → List Bool
applied_word named all w entries = applied named all (rule_of (kind_number w)).kind (low_bits w) entries

-- whether a place is in what the words leave on top: given in which names' values it is, and whether in all
abbrev pub holds : (ℕ → Bool) → Bool → List Bool → List ℕ → Bool
holds named all entries [] = slice_index_or entries 0 false
holds named all entries (w ∷ words) = holds named all (applied_word named all w entries) words

-- the places of a question's value, given those of each name's value and those of all
abbrev pub value_of : (ℕ → ℕ → Bool) → (ℕ → Bool) → List ℕ → ℕ → Bool
value_of named whole words p = holds (λ k. named k p) (whole p) [] words

-- the name in the word at this index
abbrev pub name_refusal : (ℕ → Bool) → ℕ → ℕ → Option Refusal
name_refusal standing i serial = first_of (serial_refusal serial i ∷ refuse_if (not (standing serial)) (refusal 5 i part.Kind) ∷ [])

-- the low bits of the word at this index
abbrev pub low_refusal : (ℕ → Bool) → ℕ → LowBits → ℕ → Option Refusal
low_refusal standing i low.Serial n = name_refusal standing i n
low_refusal standing i low.Zero n = refuse_if (not (n == 0)) (refusal 14 i part.Question)
low_refusal standing i low.Count n = Some (refusal 14 i part.Question)
low_refusal standing i low.Unused n = Some (refusal 14 i part.Question)

-- how many entries there are after a word with this effect
abbrev pub depth_by : ℕ → StackEffect → ℕ
depth_by d e = d - e.takes + e.leaves

-- too many entries after the word at this index, or too few before it
abbrev pub effect_refusal : ℕ → ℕ → StackEffect → Option Refusal
effect_refusal i d e =
    first_of
    (refuse_if (nat_lt most_entries (depth_by d e)) (refusal 15 i part.Question)
    ∷ refuse_if (nat_lt d e.takes) (refusal 16 i part.Question)
    ∷ [])

-- the word at index i, where there are d entries: its effect, its low bits by the table, and what they are
abbrev pub parts_refusal : (ℕ → Bool) → ℕ → ℕ → Option StackEffect → LowBits → ℕ → Option Refusal
parts_refusal standing i d None lows n = Some (refusal 14 i part.Question)
parts_refusal standing i d (Some e) lows n = first_of (low_refusal standing i lows n ∷ effect_refusal i d e ∷ [])

abbrev pub word_refusal : (ℕ → Bool) → ℕ → ℕ → ℕ → Option Refusal
word_refusal standing i d w = parts_refusal standing i d (rule_of (kind_number w)).effect (rule_of (kind_number w)).low (low_bits w)

abbrev pub depth_after : ℕ → Option StackEffect → ℕ
depth_after d None = d
depth_after d (Some e) = depth_by d e

-- the words from index i on, where there are d entries: the leftmost fault, and then whether one entry is left
abbrev pub words_refusal : (ℕ → Bool) → ℕ → ℕ → List ℕ → Option Refusal
words_refusal standing i d [] = refuse_if (not (d == 1)) (refusal 17 0 part.Question)
words_refusal standing i d (w ∷ words) =
    first_of
    (word_refusal standing i d w
    ∷ words_refusal standing (i + 1) (depth_after d (rule_of (kind_number w)).effect) words
    ∷ [])

-- a question's words, where this says which kinds stand
abbrev pub question_refusal : (ℕ → Bool) → List ℕ → Option Refusal
question_refusal standing words = words_refusal standing 0 0 words

-- no words, or too many
abbrev pub count_refusal : List ℕ → Option Refusal
count_refusal words = refuse_if (length words == 0 || nat_lt most_words (length words)) (refusal 13 0 part.Question)
