-- A word's two parts, and what each kind of word asks of its low bits and does to a stack.
use Rattle.std.specs.Prelude.{ℕ, ◌+◌, ◌*◌, ◌/◌, ◌%◌, ◌^◌, Bool, List, [], ◌∷◌, Some, None, Option, ◌==◌, slice_index_or}
use Rattle.words.specs.declared.word.WordKind.{WordKind}
use Rattle.words.specs.declared.word.WordKind.TheVariants.{Unused, Name, And, Or, Not, All, Nothing, AnswerHead, ImageHead, Child, Parent, RingHead, ImageEnd}
use Rattle.words.specs.declared.word.LowBits.{LowBits}
use Rattle.words.specs.declared.word.LowBits.TheVariants as low
use Rattle.words.specs.declared.word.StackEffect.{StackEffect}
use Rattle.words.specs.declared.word.WordRule.{WordRule}

-- the top four bits
abbrev pub kind_number : ℕ → ℕ
kind_number w = w / 2 ^ 28

-- the low 28 bits
abbrev pub low_bits : ℕ → ℕ
low_bits w = w % 2 ^ 28

-- the top four bits of each kind of word
abbrev pub number_of : WordKind → ℕ
number_of Unused = 0
number_of Name = 1
number_of And = 2
number_of Or = 3
number_of Not = 4
number_of All = 5
number_of Nothing = 6
number_of AnswerHead = 7
number_of ImageHead = 8
number_of Child = 9
number_of Parent = 10
number_of RingHead = 11
number_of ImageEnd = 15

abbrev pub is_kind : WordKind → ℕ → Bool
is_kind kind w = kind_number w == number_of kind

abbrev pub word_of : WordKind → ℕ → ℕ
word_of kind n = number_of kind * 2 ^ 28 + n

-- a word of a question takes so many entries and leaves one
abbrev pub taking : ℕ → Option StackEffect
taking n = Some (record { takes = n; leaves = 1 })

abbrev pub row : WordKind → LowBits → Option StackEffect → WordRule
row k l e = record { kind = k; low = l; effect = e }

abbrev pub unused : WordRule
unused = row Unused low.Unused None

-- the kinds 0 to 15; 0, 12, 13 and 14 are unused
abbrev pub rules : List WordRule
rules =
    unused
    ∷ row Name low.Serial (taking 0)
    ∷ row And low.Zero (taking 2)
    ∷ row Or low.Zero (taking 2)
    ∷ row Not low.Zero (taking 1)
    ∷ row All low.Zero (taking 0)
    ∷ row Nothing low.Zero (taking 0)
    ∷ row AnswerHead low.Count None
    ∷ row ImageHead low.Count None
    ∷ row Child low.Serial None
    ∷ row Parent low.Serial None
    ∷ row RingHead low.Count None
    ∷ unused
    ∷ unused
    ∷ unused
    ∷ row ImageEnd low.Count None
    ∷ []

abbrev pub rule_of : ℕ → WordRule
rule_of n = slice_index_or rules n unused
