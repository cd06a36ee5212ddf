-- Calls made one after another.
use Rattle.std.proofs.Common.{◌≡◌, ℕ, ◌+◌, ◌<◌, ◌≤◌, List, [], ◌∷◌, ◌++◌, map, length, get_or, take, sym, refl, ap, ◌∙◌, subst}
use Rattle.std.proofs.lemmas.List.{take_all, map_more}
use Rattle.catalogue.specs.Ledger as ledger
use Rattle.catalogue.specs.Ledger.{Ledger, after}
use Rattle.catalogue.specs.Table.{Table}
use Rattle.catalogue.specs.View.{View}
use Rattle.histories.specs.declared.calls.Call.{Call}
use Rattle.histories.specs.declared.memory.Lists.{Lists}
use Rattle.histories.specs.Calls.{Rooms, heard, ledger_after}
use Rattle.histories.specs.Sayings.{Saying}
use Rattle.histories.specs.Holds.{Holds, Answered, SameMemory}

pub ledger_push : (l : Ledger) (cs : List ledger.Call) (c : ledger.Call) → ledger_after l (cs ++ c ∷ []) ≡ after (ledger_after l cs) c
ledger_push l [] c = refl
ledger_push l (d ∷ cs) c = ledger_push (after l d) cs c

-- the calls made so far, and one more
pub ledger_more : (l : Ledger) (r : Rooms) (cs : List Call) (i : ℕ) (d : Call) → i < length cs
    → ledger_after l (map (heard r) (take (i + 1) cs)) ≡ after (ledger_after l (map (heard r) (take i cs))) (heard r (get_or cs i d))
ledger_more l r cs i d lt = ap (ledger_after l) (map_more (heard r) cs i d lt) ∙ ledger_push l (map (heard r) (take i cs)) (heard r (get_or cs i d))

-- lists of the same lengths
pub same_rooms : (r s : Rooms) → r.table ≡ s.table → r.words ≡ s.words → r.marks ≡ s.marks → r.walk ≡ s.walk
    → r.ring ≡ s.ring → r.working ≡ s.working → r.truths ≡ s.truths → r ≡ s
same_rooms r s t a m w n k b = λ i. record { table = t i; marks = m i; walk = w i; ring = n i; working = k i; truths = b i; words = a i }

-- what is lent stays over calls made one after another
pub same_then : {R : Type 0} (a b c : Lists R) → SameMemory a b → SameMemory b c → SameMemory a c
same_then a b c p q =
    record {
      table = q.table ∙ p.table;
      words = q.words ∙ p.words;
      marks = q.marks ∙ p.marks;
      walk = q.walk ∙ p.walk;
      ring = q.ring ∙ p.ring;
      working = q.working ∙ p.working;
      truths = q.truths ∙ p.truths;
      long = q.long ∙ p.long;
    }

pub holds_next : (v v' : View) (t t' : Table) (r r' : Rooms) (l : Ledger) (cs : List Call) (i : ℕ) (d : Call) (s : Saying)
    → i < length cs → r' ≡ r
    → ((k : Ledger) → Holds v t k → Answered k (heard r' (get_or cs i d)) s v' t')
    → Holds v t (ledger_after l (map (heard r) (take i cs))) → Holds v' t' (ledger_after l (map (heard r) (take (i + 1) cs)))
holds_next v v' t t' r r' l cs i d s lt same step h =
    let k = ledger_after l (map (heard r) (take i cs)) in
    let a = subst (λ (q : Rooms). Answered k (heard q (get_or cs i d)) s v' t') same (step k h) in
    subst (λ (m : Ledger). Holds v' t' m) (sym (ledger_more l r cs i d lt)) a.left

pub holds-all : (v : View) (t : Table) (r : Rooms) (l : Ledger) (cs : List Call) (i : ℕ) → length cs ≤ i
    → Holds v t (ledger_after l (map (heard r) (take i cs))) → Holds v t (ledger_after l (map (heard r) cs))
holds-all v t r l cs i le h = subst (λ (ds : List Call). Holds v t (ledger_after l (map (heard r) ds))) (take_all i cs le) h
