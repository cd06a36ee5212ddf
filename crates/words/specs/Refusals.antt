-- The number, the index and the part of every refusal, and when a list or a serial is refused.
use Rattle.std.specs.Prelude.{◌≡◌, ℕ, Bool, cond, ◌||◌, List, [], ◌∷◌, Some, None, Ok, Err, Option, Result, ◌==◌, nat_lt, ◌++◌, codes, decimal}
use Rattle.words.specs.declared.refusal.Part.{Part}
use Rattle.words.specs.declared.refusal.Part.TheVariants as part
use Rattle.words.specs.declared.refusal.Refusal.{Refusal}
use Rattle.words.specs.declared.refusal.ListFault.{ListFault}
use Rattle.words.specs.declared.refusal.ListFault.TheVariants.{Short}
use Rattle.words.specs.declared.refusal.SerialFault.{SerialFault}
use Rattle.words.specs.declared.refusal.SerialFault.TheVariants.{Range}
use Rattle.words.specs.declared.refusal.CatalogueFault.{CatalogueFault}
use Rattle.words.specs.declared.refusal.CatalogueFault.TheVariants as catalogue
use Rattle.words.specs.declared.refusal.ImageFault.{ImageFault}
use Rattle.words.specs.declared.refusal.ImageFault.TheVariants as image
use Rattle.words.specs.declared.refusal.AnswerFault.{AnswerFault}
use Rattle.words.specs.declared.refusal.AnswerFault.TheVariants as answer
use Rattle.words.specs.declared.refusal.ClosingFault.{ClosingFault}
use Rattle.words.specs.declared.refusal.ClosingFault.TheVariants as closing
use Rattle.words.specs.declared.refusal.QuestionFault.{QuestionFault}
use Rattle.words.specs.declared.refusal.QuestionFault.TheVariants as question
use Rattle.words.specs.declared.refusal.CodeFault.{CodeFault}
use Rattle.words.specs.declared.refusal.CodeFault.TheVariants.{PastWidth}
use Rattle.words.specs.declared.refusal.NamesFault.{NamesFault}
use Rattle.words.specs.declared.refusal.NamesFault.TheVariants as names

abbrev pub refusal : ℕ → ℕ → Part → Refusal
refusal n i p = record { number = n; index = i; part = p }

abbrev pub part_name : Part → List ℕ
part_name part.Lists = codes "lists"
part_name part.Serial = codes "serial"
part_name part.Kind = codes "kind"
part_name part.Line = codes "line"
part_name part.Closing = codes "closing"
part_name part.Question = codes "question"
part_name part.Image = codes "image"
part_name part.Answer = codes "answer"
part_name part.Code = codes "code"

-- refused NUMBER at INDEX by PART
abbrev pub refusal_text : Refusal → List ℕ
refusal_text told =
    codes "refused " ++ decimal told.number ++ codes " at " ++ decimal told.index ++ codes " by " ++ part_name told.part

-- the table of refusals: the number, the index and the part of every fault

abbrev pub list_told : ListFault → Refusal
list_told Short = refusal 1 0 part.Lists

abbrev pub serial_told : SerialFault → Refusal
serial_told (Range i) = refusal 2 i part.Serial

abbrev pub catalogue_told : CatalogueFault → Refusal
catalogue_told (catalogue.Serial f) = serial_told f
catalogue_told catalogue.KindStands = refusal 3 0 part.Kind
catalogue_told catalogue.Full = refusal 4 0 part.Kind
catalogue_told (catalogue.KindMissing i) = refusal 5 i part.Kind
catalogue_told catalogue.KindHasLine = refusal 6 0 part.Kind
catalogue_told (catalogue.OwnParent i) = refusal 7 i part.Line
catalogue_told catalogue.LineStands = refusal 8 0 part.Line
catalogue_told (catalogue.LinesFull i) = refusal 9 i part.Line
catalogue_told catalogue.LineMissing = refusal 10 0 part.Line

abbrev pub image_told : ImageFault → Refusal
image_told (image.List f) = list_told f
image_told (image.Catalogue f) = catalogue_told f
image_told image.NotEmpty = refusal 18 0 part.Image
image_told (image.NotDue i) = refusal 19 i part.Image

abbrev pub answer_told : AnswerFault → Refusal
answer_told (answer.List f) = list_told f
answer_told (answer.Serial f) = serial_told f
answer_told (answer.NotAnswer i) = refusal 20 i part.Answer

abbrev pub closing_told : ClosingFault → Refusal
closing_told (closing.List f) = list_told f
closing_told closing.Ring = refusal 11 0 part.Closing

abbrev pub question_told : QuestionFault → Refusal
question_told (question.List f) = list_told f
question_told (question.Catalogue f) = catalogue_told f
question_told question.Open = refusal 12 0 part.Question
question_told question.WordCount = refusal 13 0 part.Question
question_told (question.NotQuestionWord i) = refusal 14 i part.Question
question_told (question.TooDeep i) = refusal 15 i part.Question
question_told (question.TooFew i) = refusal 16 i part.Question
question_told question.NotOneLeft = refusal 17 0 part.Question

abbrev pub code_told : CodeFault → Refusal
code_told PastWidth = refusal 21 0 part.Code

-- a fault in a run of names, where `due` tells of a word that is not the one due
abbrev pub names_told : (ℕ → Refusal) → NamesFault → Refusal
names_told due (names.Serial f) = serial_told f
names_told due (names.NotDue i) = due i

-- a fault in a run of names, as part of an image and as part of an answer
abbrev pub image_of_names : NamesFault → ImageFault
image_of_names (names.Serial f) = image.Catalogue (catalogue.Serial f)
image_of_names (names.NotDue i) = image.NotDue i

abbrev pub answer_of_names : NamesFault → AnswerFault
answer_of_names (names.Serial f) = answer.Serial f
answer_of_names (names.NotDue i) = answer.NotAnswer i

-- a call accepts where nothing is to refuse, and otherwise tells the refusal
abbrev pub Says : {T F : Type 0} → (F → Refusal) → Result T F → Option Refusal → Type 0
Says told (Ok x) due = due ≡ None
Says told (Err f) due = due ≡ Some (told f)

-- the first refusal that applies
abbrev pub first_of : List (Option Refusal) → Option Refusal
first_of [] = None
first_of (Some r ∷ later) = Some r
first_of (None ∷ later) = first_of later

abbrev pub refuse_if : Bool → Refusal → Option Refusal
refuse_if b r = cond b (Some r) None

-- a list of this length where so many elements are needed
abbrev pub list_refusal : ℕ → ℕ → Option Refusal
list_refusal length needed = refuse_if (nat_lt length needed) (refusal 1 0 part.Lists)

abbrev pub bad_serial : ℕ → Bool
bad_serial x = x == 0 || nat_lt 268435455 x

abbrev pub serial_refusal : ℕ → ℕ → Option Refusal
serial_refusal x i = refuse_if (bad_serial x) (refusal 2 i part.Serial)
