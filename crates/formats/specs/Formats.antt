-- Answers and images as words, and what is wrong with words that are none.
use Rattle.std.specs.Prelude.{◌≡◌, ℕ, zero, suc, ◌+◌, ◌*◌, cond, not, List, [], ◌∷◌, ◌++◌, map, length, take, drop, Some, None, Ok, Err, filter, Option, Result, ◌==◌, nat_le, nat_lt, slice_index}
use Rattle.std.specs.List.{flat_map}
use Rattle.descent.specs.declared.line.Line.{Line}
use Rattle.descent.specs.Lines.{stands}
use Rattle.words.specs.declared.refusal.Refusal.{Refusal}
use Rattle.words.specs.declared.refusal.Part.TheVariants as part
use Rattle.words.specs.declared.word.WordKind.TheVariants.{Name, AnswerHead, ImageHead, Child, Parent, ImageEnd}
use Rattle.words.specs.Words.{low_bits, is_kind, word_of}
use Rattle.words.specs.Refusals.{refusal, refuse_if, first_of, list_refusal, serial_refusal}
use Rattle.descent.specs.Order.{line_key}

-- an answer: a head that counts the names, and the names
abbrev pub answer_of : List ℕ → List ℕ
answer_of kinds = word_of AnswerHead (length kinds) ∷ map (word_of Name) kinds

-- a line: a child word and its parent word
abbrev pub line_words : Line → List ℕ
line_words l = word_of Child l.child ∷ word_of Parent l.parent ∷ []

-- an image before its end: a head that counts the kinds, their names, and the lines
abbrev pub image_body : List ℕ → List Line → List ℕ
image_body kinds lines = word_of ImageHead (length kinds) ∷ map (word_of Name) kinds ++ flat_map line_words lines

-- an image: the end counts the words before it
abbrev pub image_of : List ℕ → List Line → List ℕ
image_of kinds lines = image_body kinds lines ++ word_of ImageEnd (length (image_body kinds lines)) ∷ []

abbrev pub image_length : List ℕ → List Line → ℕ
image_length kinds lines = 2 + length kinds + 2 * length lines

-- words written from the start of a list, whose later words stay; a refusal leaves the list as it was
abbrev pub Listed : {F : Type 0} → List ℕ → List ℕ → List ℕ → Result ℕ F → Type 0
Listed words old new (Ok n) = (n ≡ length words) × (new ≡ words ++ drop (length words) old)
Listed words old new (Err f) = new ≡ old

-- the serials in a run of words
abbrev pub serials_in : List ℕ → List ℕ
serials_in = map low_bits

-- a word that is not the one due at this index
abbrev pub not_due : ℕ → Refusal
not_due i = refusal 19 i part.Image

abbrev pub not_answer : ℕ → Refusal
not_answer i = refusal 20 i part.Answer

-- the word at index i as a name whose serial is above the one before
abbrev pub name_refusal : (ℕ → Refusal) → ℕ → ℕ → ℕ → Option Refusal
name_refusal due last i w =
    first_of (refuse_if (not (is_kind Name w)) (due i)
    ∷ serial_refusal (low_bits w) i
    ∷ refuse_if (nat_le (low_bits w) last) (due i)
    ∷ [])

-- the leftmost fault in n names that begin at index i, the serial of each above the one before
abbrev pub names_refusal : (ℕ → Refusal) → ℕ → ℕ → ℕ → List ℕ → Option Refusal
names_refusal due zero last i ws = None
names_refusal due (suc n) last i [] = Some (due i)
names_refusal due (suc n) last i (w ∷ ws) = first_of (name_refusal due last i w ∷ names_refusal due n (low_bits w) (i + 1) ws ∷ [])

-- a word at index i where none is due
abbrev pub nothing_due : (ℕ → Refusal) → ℕ → List ℕ → Option Refusal
nothing_due due i [] = None
nothing_due due i (w ∷ ws) = Some (due i)

-- the leftmost fault in words that should be an answer
abbrev pub answer_refusal : List ℕ → Option Refusal
answer_refusal [] = Some (not_answer 0)
answer_refusal (h ∷ ws) =
    first_of (refuse_if (not (is_kind AnswerHead h)) (not_answer 0)
    ∷ names_refusal not_answer (low_bits h) 0 1 ws
    ∷ nothing_due not_answer (low_bits h + 1) (drop (low_bits h) ws)
    ∷ [])

-- the kinds that an answer names
abbrev pub named_in : List ℕ → List ℕ
named_in ws = serials_in (drop 1 ws)

-- of these kinds, those that stand
abbrev pub still_among : List ℕ → List ℕ → List ℕ
still_among standing kinds = filter (λ k. stands k standing) kinds

-- why words are not recalled into a list of this length, where there are w places
abbrev pub recall_refusal : ℕ → List ℕ → ℕ → Option Refusal
recall_refusal w ws room = first_of (list_refusal room (w + 1) ∷ answer_refusal ws ∷ [])

-- the serial in the word at index i as that of one of these kinds
abbrev pub named_refusal : List ℕ → ℕ → ℕ → Option Refusal
named_refusal kinds i x = first_of (serial_refusal x i ∷ refuse_if (not (stands x kinds)) (refusal 5 i part.Kind) ∷ [])

-- the word at index i as the child of a line between these kinds
abbrev pub child_refusal : List ℕ → ℕ → ℕ → Option Refusal
child_refusal kinds i c = first_of (refuse_if (not (is_kind Child c)) (not_due i) ∷ named_refusal kinds i (low_bits c) ∷ [])

-- the line that two words stand for
abbrev pub line_in : ℕ → ℕ → Line
line_in c p = record { child = low_bits c; parent = low_bits p }

-- the word at index i as the parent of the child before it, with n lines before, the last of which has this key
abbrev pub parent_refusal : List ℕ → ℕ → ℕ → ℕ → ℕ → ℕ → Option Refusal
parent_refusal kinds n last i c p =
    first_of (refuse_if (not (is_kind Parent p)) (not_due i)
    ∷ named_refusal kinds i (low_bits p)
    ∷ refuse_if (low_bits c == low_bits p) (refusal 7 i part.Line)
    ∷ refuse_if (nat_le 2048 n) (refusal 9 i part.Line)
    ∷ refuse_if (nat_le (line_key (line_in c p)) last) (not_due i)
    ∷ [])

-- two words from index i on as a line
abbrev pub line_refusal : List ℕ → ℕ → ℕ → ℕ → ℕ → ℕ → Option Refusal
line_refusal kinds n last i c p = first_of (child_refusal kinds i c ∷ parent_refusal kinds n last (i + 1) c p ∷ [])

-- the end counts the words before it, and is the last word
abbrev pub end_refusal : ℕ → ℕ → List ℕ → Option Refusal
end_refusal i e ws = first_of (refuse_if (not (low_bits e == i)) (not_due i) ∷ nothing_due not_due (i + 1) ws ∷ [])

-- the leftmost fault where lines and then the end are due, from index i on
abbrev pub lines_refusal : List ℕ → ℕ → ℕ → ℕ → List ℕ → Option Refusal
lines_refusal kinds n last i [] = Some (not_due i)
lines_refusal kinds n last i (c ∷ []) =
    cond (is_kind ImageEnd c) (end_refusal i c []) (first_of (child_refusal kinds i c ∷ Some (not_due (i + 1)) ∷ []))
lines_refusal kinds n last i (c ∷ p ∷ ws) =
    cond (is_kind ImageEnd c) (end_refusal i c (p ∷ ws))
    (first_of (child_refusal kinds i c
    ∷ parent_refusal kinds n last (i + 1) c p
    ∷ lines_refusal kinds (n + 1) (line_key (line_in c p)) (i + 2) ws
    ∷ []))

-- how many kinds the head of an image counts
abbrev pub count_in : List ℕ → ℕ
count_in ws = low_bits (slice_index ws 0)

-- the kinds and the lines in the words of an image
abbrev pub kinds_in : List ℕ → List ℕ
kinds_in [] = []
kinds_in (h ∷ ws) = serials_in (take (low_bits h) ws)

abbrev pub pairs_in : List ℕ → List Line
pairs_in [] = []
pairs_in (c ∷ []) = []
pairs_in (c ∷ p ∷ ws) = line_in c p ∷ pairs_in ws

abbrev pub lines_in : List ℕ → List Line
lines_in [] = []
lines_in (h ∷ ws) = pairs_in (drop (low_bits h) ws)

-- the leftmost fault in words that should be an image for a catalogue of w places
abbrev pub image_refusal : ℕ → List ℕ → Option Refusal
image_refusal w [] = Some (not_due 0)
image_refusal w (h ∷ ws) =
    first_of (refuse_if (not (is_kind ImageHead h)) (not_due 0)
    ∷ refuse_if (nat_lt w (low_bits h)) (refusal 4 0 part.Kind)
    ∷ names_refusal not_due (low_bits h) 0 1 ws
    ∷ lines_refusal (kinds_in (h ∷ ws)) 0 0 (low_bits h + 1) (drop (low_bits h) ws)
    ∷ [])
