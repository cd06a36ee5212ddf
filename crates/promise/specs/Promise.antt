-- Two finders over any two sorts of code, each after calls of its own, never disagree.
use Rattle.std.specs.Prelude.{◌≡◌, ℕ, ◌+◌, ◌≤◌, Bool, true, ◌⊎◌, ◌↔◌, List, [], ◌∷◌, ◌++◌, map, length, slice_index_or}
use Rattle.words.specs.declared.refusal.Refusal.{Refusal}
use Rattle.words.specs.Refusals.{first_of}
use Rattle.descent.specs.Descent.{LeadsUp, descends}
use Rattle.descent.specs.Lines.{stands}
use Rattle.descent.specs.Order.{rising_from}
use Rattle.descent.specs.Coverage.{Uppermost}
use Rattle.questions.specs.Questions.{count_refusal, question_refusal}
use Rattle.questions.specs.Readings.{ReadsOnly}
use Rattle.formats.specs.Formats.{answer_of}
use Rattle.catalogue.specs.Ledger.{Ledger, Call, blank, close, ask, fit, recall, kind_refusal, set_of, answering, still_standing}
use Rattle.histories.specs.declared.calls.Call as call
use Rattle.histories.specs.Calls.{Rooms, heard, ledger_after}
use Rattle.histories.specs.Sayings.{Saying, done, wrote, verdict, stopped, unless_due}
use Rattle.promise.specs.Runs.{Kept, shown}

-- a finder that was new, with so many places: the calls on it, with all that they were handed, and what each said
pub record Run : Type 0 where
  pub width : ℕ
  pub calls : List Call
  pub said : List Saying

-- the run of these calls, handed as much as they say of lists this long
abbrev pub run_of : ℕ → Rooms → List call.Call → List Kept → Run
run_of width rooms calls said = record { width = width; calls = map (heard rooms) calls; said = map shown said }

-- at some time in the run l stood there, this call was made, and this was said
pub record Turn (run : Run) (l : Ledger) (call : Call) (s : Saying) : Type 0 where
  pub earlier : List Call
  pub later : List Call
  pub made : run.calls ≡ earlier ++ call ∷ later
  pub stood : l ≡ ledger_after (blank run.width) earlier
  pub answered : s ≡ slice_index_or run.said (length earlier) done

-- the turns spoken of, each handed lists of full length

pub record Closing (run : Run) (l : Ledger) (s : Saying) : Type 0 where
  pub table : ℕ
  pub marks : ℕ
  pub walk : ℕ
  pub ring : ℕ
  pub turn : Turn run l (close table marks walk ring) s
  pub full : (l.wide ≤ table) × (l.wide ≤ marks) × (l.wide ≤ walk) × (l.wide + 1 ≤ ring)

pub record Asking (run : Run) (l : Ledger) (words : List ℕ) (s : Saying) : Type 0 where
  pub table : ℕ
  pub working : ℕ
  pub answer : ℕ
  pub turn : Turn run l (ask words table working answer) s
  pub full : (l.wide ≤ table) × (32 ≤ working) × (l.wide + 1 ≤ answer)

pub record Fitting (run : Run) (l : Ledger) (serial : ℕ) (words : List ℕ) (s : Saying) : Type 0 where
  pub table : ℕ
  pub working : ℕ
  pub turn : Turn run l (fit serial words table working) s
  pub full : (l.wide ≤ table) × (32 ≤ working)

pub record Recalling (run : Run) (l : Ledger) (words : List ℕ) (s : Saying) : Type 0 where
  pub answer : ℕ
  pub turn : Turn run l (recall words answer) s
  pub full : l.wide + 1 ≤ answer

-- at some time in the run l stood there, and a question got this answer
pub record Gave (run : Run) (l : Ledger) (words answer : List ℕ) : Type 0 where
  pub table : ℕ
  pub working : ℕ
  pub room : ℕ
  pub turn : Turn run l (ask words table working room) (wrote answer)

-- at some time in the run l stood there, and this was said of a kind and a question
pub record Judged (run : Run) (l : Ledger) (serial : ℕ) (words : List ℕ) (is : Bool) : Type 0 where
  pub table : ℕ
  pub working : ℕ
  pub turn : Turn run l (fit serial words table working) (verdict is)

-- the same kinds and lines stand in both
pub record Alike (l m : Ledger) : Type 0 where
  pub kinds : l.kinds ≡ m.kinds
  pub lines : l.lines ≡ m.lines

-- some kind leads back to itself by standing lines
abbrev pub SomeRing : Ledger → Type 0
SomeRing l = (k : ℕ) × LeadsUp l.lines k k

-- it was refused
abbrev pub Refuses : Saying → Type 0
Refuses s = (r : Refusal) × (s ≡ stopped r)

-- what the rules have a closed catalogue say to a question
abbrev pub answer_by_rules : Ledger → List ℕ → Saying
answer_by_rules l words =
    unless_due (first_of (count_refusal words ∷ question_refusal (λ k. stands k l.kinds) words ∷ [])) (wrote (answer_of (answering l words)))

abbrev pub fit_by_rules : Ledger → ℕ → List ℕ → Saying
fit_by_rules l serial words =
    unless_due (first_of (count_refusal words ∷ kind_refusal l serial ∷ question_refusal (λ k. stands k l.kinds) words ∷ [])) (verdict (set_of l words serial))

-- whether kind k is in the question's set, by its operators: a name has the kinds that descend from it, all has those that stand
abbrev pub InSet : Ledger → List ℕ → ℕ → Bool → Type 0
InSet l words k is = ReadsOnly (λ m. descends l.lines k m) (stands k l.kinds) words is

-- an answer's words: its head and, by rising serial, the names of the uppermost kinds whose whole descent the question covers
pub record NamesUppermost (l : Ledger) (words answer : List ℕ) : Type 0 where
  pub set : ℕ → Bool
  pub reading : (k : ℕ) → InSet l words k (set k)
  pub kinds : List ℕ
  pub written : answer ≡ answer_of kinds
  pub rising : rising_from 0 kinds ≡ true
  pub uppermost : (k : ℕ) → (stands k kinds ≡ true) ↔ Uppermost l.kinds l.lines set k

-- each finder alone keeps to the rules
pub record Sound (run : Run) : Type 0 where
  pub answers : length run.said ≡ length run.calls
  -- closing is refused exactly when some kind leads back to itself
  pub closing : (l : Ledger) (s : Saying) → Closing run l s → Refuses s ↔ SomeRing l
  pub asking : (l : Ledger) (words : List ℕ) (s : Saying) → Asking run l words s → l.closed ≡ true → s ≡ answer_by_rules l words
  pub naming : (l : Ledger) (words answer : List ℕ) → Gave run l words answer → NamesUppermost l words answer
  pub fitting : (l : Ledger) (serial : ℕ) (words : List ℕ) (s : Saying) → Fitting run l serial words s → l.closed ≡ true
      → s ≡ fit_by_rules l serial words
  pub judging : (l : Ledger) (serial : ℕ) (words : List ℕ) (is : Bool) → Judged run l serial words is → InSet l words serial is

pub record Promised (east west : Run) : Type 0 where
  pub east_sound : Sound east
  pub west_sound : Sound west
  -- where the same stands in both, closing is refused in the one exactly when in the other
  pub closing : (l m : Ledger) (s t : Saying) → Closing east l s → Closing west m t → Alike l m → Refuses s ↔ Refuses t
  -- where both are closed besides, both say the same to a question, and of a kind and a question
  pub asking : (l m : Ledger) (words : List ℕ) (s t : Saying) → Asking east l words s → Asking west m words t
      → Alike l m → l.closed ≡ true → m.closed ≡ true → s ≡ t
  pub fitting : (l m : Ledger) (serial : ℕ) (words : List ℕ) (s t : Saying) → Fitting east l serial words s → Fitting west m serial words t
      → Alike l m → l.closed ≡ true → m.closed ≡ true → s ≡ t
  -- an answer that either ever gave, recalled in either, names exactly those of its kinds that then stand there
  pub recalling : (l m : Ledger) (words answer : List ℕ) (s : Saying)
      → Gave east l words answer ⊎ Gave west l words answer
      → Recalling east m answer s ⊎ Recalling west m answer s
      → s ≡ wrote (answer_of (still_standing m answer))
