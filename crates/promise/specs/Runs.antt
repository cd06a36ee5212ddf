-- What calls said, one after another.
use Rattle.std.specs.Prelude.{◌≡◌, ℕ, List, [], ◌∷◌, vec_items, Result}
use Rattle.std.specs.Global.{Vec}
use Rattle.words.specs.declared.refusal.Refusal.{Refusal}
use Rattle.descent.specs.Proper.{CanHold}
use Rattle.catalogue.specs.Ledger.{Ledger, Call, after}
use Rattle.histories.specs.declared.reply.Reply.{Reply}
use Rattle.histories.specs.Sayings.{Saying, saying, said}

-- what is kept of a call: its reply, with the words, or the refusal
abbrev pub Kept : Type 0
Kept = Result (Reply (Vec ℕ)) Refusal

abbrev pub shown : Kept → Saying
shown = said vec_items

-- from l on, the calls said this, one after another, and what stood before each is what a catalogue can hold
abbrev pub Followed : Ledger → List Call → List Saying → Type 0
Followed l [] [] = Unit {0}
Followed l [] (s ∷ said) = ⊥
Followed l (c ∷ calls) [] = ⊥
Followed l (c ∷ calls) (s ∷ said) = CanHold l.wide l.kinds l.lines × (s ≡ saying l c) × Followed (after l c) calls said
