-- A call that is refused stays, and one that is accepted goes on.
use Rattle.std.proofs.Common.{◌≡◌, ℕ, false, List, Some, None, Ok, Err, Option, sym, refl, ap, ◌∙◌, ap₂}
use Rattle.std.proofs.lemmas.Bool.{false≢true}
use Rattle.words.specs.declared.refusal.Refusal.{Refusal}
use Rattle.descent.specs.declared.line.Line.{Line}
use Rattle.catalogue.specs.Ledger.{Ledger, Call, refused, accepted, opened, unless}
use Rattle.catalogue.specs.View.{View, Moved}

pub stays : {T F : Type 0} (told : F → Refusal) (call : Call) (v : View) (f : F) → refused v.book call ≡ Some (told f) → Moved {T = T} told call v v (Err f)
stays told call v f h =
    record {
      says = h;
      moves = sym (ap (λ (o : Option Refusal). unless o (accepted v.book call) v.book) h);
      same = λ _. refl;
    }

pub goes : {T F : Type 0} (told : F → Refusal) (call : Call) (old new : View) (x : T) → refused old.book call ≡ None → new.book ≡ accepted old.book call → Moved {F = F} told call old new (Ok x)
goes told call old new x h e =
    record {
      says = h;
      moves = e ∙ sym (ap (λ (o : Option Refusal). unless o (accepted old.book call) old.book) h);
      same = λ q. absurd (false≢true q);
    }

-- open, with the width that was there
pub opens : (l : Ledger) (w : ℕ) (ks ks' : List ℕ) (ls ls' : List Line) → w ≡ l.wide → ks ≡ ks' → ls ≡ ls' → record { wide = w; kinds = ks; lines = ls; closed = false } ≡ opened l ks' ls'
opens l w ks ks' ls ls' e f g =
    let made : ℕ → Ledger = λ n. record { wide = n; kinds = ks; lines = ls; closed = false } in
    ap made e ∙ ap₂ (opened l) f g
