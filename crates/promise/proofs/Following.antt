-- Calls made one after another say what the rules have them say.
use Rattle.std.proofs.Common.{◌≡◌, ℕ, ◌+◌, ◌<◌, ◌≤◌, List, [], ◌∷◌, ◌++◌, map, length, get_or, take, sym, ap, subst}
use Rattle.std.proofs.lemmas.List.{take_all, map_more}
use Rattle.std.proofs.lemmas.Bool.{both_ways}
use Rattle.catalogue.specs.Ledger as ledger
use Rattle.catalogue.specs.Ledger.{Ledger, after, blank}
use Rattle.descent.specs.Proper.{CanHold}
use Rattle.catalogue.specs.Table.{Table}
use Rattle.catalogue.specs.View.{View}
use Rattle.histories.specs.declared.calls.Call.{Call}
use Rattle.histories.specs.Calls.{Rooms, heard, ledger_after}
use Rattle.histories.specs.Sayings.{Saying, saying}
use Rattle.histories.specs.Holds.{Holds, Answered}
use Rattle.promise.specs.Runs.{Followed}
use Rattle.histories.proofs.Following.{holds_next}

followed_push : (l : Ledger) (cs : List ledger.Call) (ss : List Saying) (c : ledger.Call) (s : Saying) → Followed l cs ss
    → CanHold (ledger_after l cs).wide (ledger_after l cs).kinds (ledger_after l cs).lines → s ≡ saying (ledger_after l cs) c
    → Followed l (cs ++ c ∷ []) (ss ++ s ∷ [])
followed_push l [] [] c s f held says = (held, says, tt)
followed_push l [] (x ∷ ss) c s f held says = absurd f
followed_push l (d ∷ cs) [] c s f held says = absurd f
followed_push l (d ∷ cs) (x ∷ ss) c s (h, e, rest) held says = (h, e, followed_push (after l d) cs ss c s rest held says)

-- the calls made so far, and one more
pub followed_next : (v v' : View) (t t' : Table) (r r' : Rooms) (l : Ledger) (cs : List Call) (i : ℕ) (d : Call) (said said' : List Saying) (s : Saying)
    → i < length cs → r' ≡ r → said' ≡ said ++ s ∷ [] → CanHold v.book.wide v.book.kinds v.book.lines
    → ((k : Ledger) → Holds v t k → Answered k (heard r' (get_or cs i d)) s v' t')
    → Followed l (map (heard r) (take i cs)) said × Holds v t (ledger_after l (map (heard r) (take i cs)))
    → Followed l (map (heard r) (take (i + 1) cs)) said' × Holds v' t' (ledger_after l (map (heard r) (take (i + 1) cs)))
followed_next v v' t t' r r' l cs i d said said' s lt same pushed held step (f, h) =
    let past = map (heard r) (take i cs) in
    let k = ledger_after l past in
    let c = heard r (get_or cs i d) in
    let more : map (heard r) (take (i + 1) cs) ≡ past ++ c ∷ [] = map_more (heard r) cs i d lt in
    let a = subst (λ (q : Rooms). Answered k (heard q (get_or cs i d)) s v' t') same (step k h) in
    let stood = subst (λ (m : Ledger). CanHold m.wide m.kinds m.lines) h.told held in (
      subst (λ (xs : List ledger.Call). Followed l xs said') (sym more)
          (subst (λ (ys : List Saying). Followed l (past ++ c ∷ []) ys) (sym pushed) (followed_push l past said c s f stood a.says)),
      holds_next v v' t t' r r' l cs i d s lt same step h,
    )

pub followed_all : (r : Rooms) (l : Ledger) (cs : List Call) (i : ℕ) (said : List Saying) → length cs ≤ i
    → Followed l (map (heard r) (take i cs)) said → Followed l (map (heard r) cs) said
followed_all r l cs i said le f = subst (λ (ds : List Call). Followed l (map (heard r) ds) said) (take_all i cs le) f

-- a new catalogue is open, so that any table of its width belongs to it
pub new_holds : (v : View) (t : Table) → v.book ≡ blank t.across → Holds v t (blank t.across)
new_holds v t new =
    record {
      belongs =
          record {
            wide = ap (λ (l : Ledger). l.wide) new;
            closed = λ shut. absurd (both_ways v.book.closed (ap (λ (l : Ledger). l.closed) new) shut);
          };
      told = new;
    }
