-- The clutch catalogue as a ledger, and questions, answers and refusals in the words of the rules.
use Rattle.std.specs.Prelude.{◌≡◌, ℕ, Bool, List, [], ◌∷◌, Some, None}
use Rattle.descent.specs.declared.line.Line.{Line}
use Rattle.words.specs.declared.refusal.Refusal.{Refusal}
use Rattle.words.specs.declared.word.WordKind.TheVariants.{Name, And, Or, Not, All, Nothing, AnswerHead}
use Rattle.words.specs.Words.{word_of}
use Rattle.formats.specs.Formats.{answer_of}
use Rattle.catalogue.specs.Ledger.{Ledger, Call, blank, after, refused, answering, set_of, still_standing, read_image, enter_line, close, ask, fit, recall}

-- a line from a child to its parent
abbrev pub line : ℕ → ℕ → Line
line child parent = record { child = child; parent = parent }

-- 10 clutch, 20 wet clutch, 30 dry clutch, 40 wear part, 50 lined plate; lines 20-10, 30-10, 50-20, 50-40
abbrev pub image : List ℕ
image =
    0x80000005
    ∷ 0x1000000A ∷ 0x10000014 ∷ 0x1000001E ∷ 0x10000028 ∷ 0x10000032
    ∷ 0x90000014 ∷ 0xA000000A
    ∷ 0x9000001E ∷ 0xA000000A
    ∷ 0x90000032 ∷ 0xA0000014
    ∷ 0x90000032 ∷ 0xA0000028
    ∷ 0xF000000E
    ∷ []

-- calls with lists as long as 512 places need
abbrev pub closing : Call
closing = close 512 512 512 513

abbrev pub asking : List ℕ → Call
asking question = ask question 512 32 513

abbrev pub fitting : ℕ → List ℕ → Call
fitting kind question = fit kind question 512 32

abbrev pub recalling : List ℕ → Call
recalling answer = recall answer 513

-- a new ledger of 512 places that heard the reading of the image, and a closing
abbrev pub clutch : Ledger
clutch = after (after (blank 512) (read_image image)) closing

-- with the line 10-50 besides
abbrev pub knotted : Ledger
knotted = after clutch (enter_line 10 50)

-- the calls one after another
abbrev pub after_all : Ledger → List Call → Ledger
after_all l [] = l
after_all l (c ∷ cs) = after_all (after l c) cs

-- the words of questions and answers
abbrev pub name : ℕ → ℕ
name = word_of Name

abbrev pub and : ℕ
and = word_of And 0

abbrev pub or : ℕ
or = word_of Or 0

abbrev pub not : ℕ
not = word_of Not 0

abbrev pub all : ℕ
all = word_of All 0

abbrev pub nothing : ℕ
nothing = word_of Nothing 0

abbrev pub head : ℕ → ℕ
head = word_of AnswerHead

-- asking these words is accepted, and these words are the answer
pub record Answers (l : Ledger) (question answer : List ℕ) : Type 0 where
  pub accepted : refused l (asking question) ≡ None
  pub words : answer_of (answering l question) ≡ answer

-- fitting the kind to these words is accepted, and this is the answer
pub record Fits (l : Ledger) (kind : ℕ) (question : List ℕ) (answer : Bool) : Type 0 where
  pub accepted : refused l (fitting kind question) ≡ None
  pub value : set_of l question kind ≡ answer

-- the kept answer is accepted, and these words name those of its kinds that stand
pub record Recalls (l : Ledger) (kept answer : List ℕ) : Type 0 where
  pub accepted : refused l (recalling kept) ≡ None
  pub words : answer_of (still_standing l kept) ≡ answer

-- the call is refused so
abbrev pub Refuses : Ledger → Call → Refusal → Type 0
Refuses l call r = refused l call ≡ Some r
