-- Each call says what the rules have it say, and keeps the table with its catalogue and what stands with its ledger.
use Rattle.std.proofs.Common.{◌≡◌, ℕ, false, List, IfOk, Some, None, Ok, Err, Option, Result, sym, refl, ap, ◌∙◌, subst}
use Rattle.std.proofs.lemmas.Bool.{both_ways}
use Rattle.words.specs.declared.refusal.Refusal.{Refusal}
use Rattle.words.specs.Refusals.{Says}
use Rattle.codes.specs.Sorts.{Sort}
use Rattle.catalogue.specs.Ledger as ledger
use Rattle.catalogue.specs.Ledger.{Ledger, refused, accepted, unless, after}
use Rattle.catalogue.specs.Table.{Table, table_of, Belongs}
use Rattle.catalogue.specs.View.{View, Moved}
use Rattle.histories.specs.declared.calls.Call.{Call}
use Rattle.histories.specs.declared.reply.Reply.{Reply}
use Rattle.histories.specs.declared.reply.Reply.TheVariants.{Done}
use Rattle.histories.specs.Calls.{Rooms, heard}
use Rattle.histories.specs.Sayings.{Saying, done, given, saying, said}
use Rattle.histories.specs.Holds.{Holds, Answered}
use Rattle.histories.proofs.Sayings.{Tells, told_said, any_ok}

unless_same : (o : Option Refusal) (l m : Ledger) → m ≡ l → unless o m l ≡ l
unless_same None l m e = e
unless_same (Some r) l m e = refl

-- a call that changes nothing
pub answered_same : {T F : Type 0} (told : F → Refusal) (gives : T → Reply ℕ) (c : ledger.Call) (v : View)
    {t : Table} (words : ℕ → List ℕ) (r : Result T F) (s : Result (Reply ℕ) Refusal)
    → ((m : Ledger) → accepted m c ≡ m) → Tells told gives r s → Says told r (refused v.book c)
    → (refused v.book c ≡ None → Belongs v t → IfOk r (λ x. said words (Ok (gives x)) ≡ given v.book c))
    → (l : Ledger) → Holds v t l → Answered l c (said words s) v t
answered_same told gives c v words r s keeps tells says gave l h =
    record {
      says =
          told_said told gives (refused v.book c) (given v.book c) words r s tells says (λ none. gave none h.belongs)
          ∙ ap (λ (k : Ledger). saying k c) h.told;
      left = record { belongs = h.belongs; told = h.told ∙ sym (unless_same (refused l c) l (accepted l c) (keeps l)) };
    }

-- a call that leaves the catalogue open where it is accepted
left_open : {T F : Type 0} (told : F → Refusal) (c : ledger.Call) (old new : View) (t : Table) (r : Result T F)
    → ((m : Ledger) → (accepted m c).closed ≡ false) → ((m : Ledger) → (accepted m c).wide ≡ m.wide)
    → Moved told c old new r → Belongs old t → Belongs new t
left_open told c old new t (Ok x) opens wide moved b =
    let left : new.book ≡ accepted old.book c = moved.moves ∙ ap (λ (o : Option Refusal). unless o (accepted old.book c) old.book) moved.says in
    record {
      wide = ap (λ (m : Ledger). m.wide) left ∙ wide old.book ∙ b.wide;
      closed = λ shut. absurd (both_ways new.book.closed (ap (λ (m : Ledger). m.closed) left ∙ opens old.book) shut);
    }
left_open told c old new t (Err f) opens wide moved b = subst (λ (v : View). Belongs v t) (sym (moved.same refl)) b

-- a call that moves the catalogue has nothing to tell
pub answered_moved : {F : Type 0} (told : F → Refusal) (c : ledger.Call)
    {old new : View} {t u : Table} (words : ℕ → List ℕ) (r : Result (Unit {0}) F) (s : Result (Reply ℕ) Refusal)
    → ((m : Ledger) → done ≡ given m c) → Moved told c old new r → Tells told (λ _. Done) r s → (Belongs old t → Belongs new u)
    → (l : Ledger) → Holds old t l → Answered l c (said words s) new u
answered_moved told c {old = old} words r s gives moved tells keeps l h =
    record {
      says =
          told_said told (λ _. Done) (refused old.book c) (given old.book c) words r s tells moved.says (λ _. any_ok r _ (λ _. gives old.book))
          ∙ ap (λ (k : Ledger). saying k c) h.told;
      left = record { belongs = keeps h.belongs; told = moved.moves ∙ ap (λ (k : Ledger). after k c) h.told };
    }

pub answered_open : {F : Type 0} (told : F → Refusal) (c : ledger.Call)
    {old new : View} {t : Table} (words : ℕ → List ℕ) (r : Result (Unit {0}) F) (s : Result (Reply ℕ) Refusal)
    → ((m : Ledger) → (accepted m c).closed ≡ false) → ((m : Ledger) → (accepted m c).wide ≡ m.wide)
    → ((m : Ledger) → done ≡ given m c)
    → Moved told c old new r → Tells told (λ _. Done) r s → (l : Ledger) → Holds old t l → Answered l c (said words s) new t
answered_open told c {old = old} {new = new} {t = t} words r s opens wide gives moved tells =
    answered_moved told c words r s gives moved tells (left_open told c old new t r opens wide moved)

-- what was made, in the words of the call that was handed in and of the table at the call
pub at_call : {S R : Type 0} (sort : Sort S R) (room : Rooms)
    {rows rows' : List R} {c d : Call} {e : ledger.Call} {s : Saying} {old new : View} {left : Table}
    → rows ≡ rows' → c ≡ d → heard room d ≡ e
    → ((l : Ledger) → Holds old (table_of sort rows') l → Answered l e s new left)
    → (l : Ledger) → Holds old (table_of sort rows) l → Answered l (heard room c) s new left
at_call {R = R} sort room {s = s} {old = old} {new = new} {left = left} lent call hears made l h =
    subst (λ (k : ledger.Call). Answered l k s new left) (sym (ap (heard room) call ∙ hears))
    (made l (subst (λ (xs : List R). Holds old (table_of sort xs) l) lent h))
