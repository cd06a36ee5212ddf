-- The row of each kind of word in the table of rules.
use Rattle.std.proofs.Common.{◌≡◌, ℕ, None, arith}
use Rattle.words.specs.declared.word.WordKind.{WordKind}
use Rattle.words.specs.declared.word.WordKind.TheVariants.{Unused, Name, And, Or, Not, All, Nothing, AnswerHead, ImageHead, Child, Parent, RingHead, ImageEnd}
use Rattle.words.specs.declared.word.LowBits.TheVariants as low
use Rattle.words.specs.declared.word.WordRule.{WordRule}
use Rattle.words.specs.Words.{row, taking, unused, rule_of}

abbrev pub row_of : WordKind → WordRule
row_of Unused = unused
row_of Name = row Name low.Serial (taking 0)
row_of And = row And low.Zero (taking 2)
row_of Or = row Or low.Zero (taking 2)
row_of Not = row Not low.Zero (taking 1)
row_of All = row All low.Zero (taking 0)
row_of Nothing = row Nothing low.Zero (taking 0)
row_of AnswerHead = row AnswerHead low.Count None
row_of ImageHead = row ImageHead low.Count None
row_of Child = row Child low.Serial None
row_of Parent = row Parent low.Serial None
row_of RingHead = row RingHead low.Count None
row_of ImageEnd = row ImageEnd low.Count None

-- a kind has one row
pub row_by_kind : (n : ℕ) (kind : WordKind) → (rule_of n).kind ≡ kind → rule_of n ≡ row_of kind
row_by_kind n kind e = grind arith
