use Rattle.std.proofs.Common.{◌≡◌, ◌<◌, List, ℕ, [], ◌∷◌, length, Option, Some, None, MatchOption, ap, arith, Bor}
use Rattle.std.specs.Iterator.{YieldsFirstRef, MakesProgress, item_count}
use Rattle.terminal.specs.declared.fields.Fields as reader
use Rattle.terminal.specs.Fields.{fields_left, rest}
use Rattle.terminal.proofs.fields.FieldsIterator.TheImpl.Goals as goal

-- what `next` promises is what an iterator over `fields_left` does
module _ (s t : reader.Fields) where
  abbrev Cases : Option (Bor (List ℕ)) → Type 0
  Cases r = MatchOption r (fields_left s ≡ []) (λ field. fields_left s ≡ field.now ∷ fields_left t)

  abbrev Left : Option (Bor (List ℕ)) → Type 0
  Left r = MatchOption r (fields_left t ≡ []) (λ _. length (rest t) < length (rest s))

  abbrev Goes : Option (Bor (List ℕ)) → Type 0
  Goes r = MakesProgress (λ _. Unit {0}) (item_count fields_left) s r t

  steps : (r : Option (Bor (List ℕ))) → Cases r → Left r → YieldsFirstRef fields_left s r t × Goes r
  steps None cases left = ((cases, left), record { on = λ _. tt; keeps = tt; rests = λ _. tt })
  steps (Some field) cases left = (cases, record { on = λ _. (tt, tt, omega (arith, ap length cases)); keeps = tt; rests = λ _. tt })

pub next-tells : goal.next-tells
next-tells g x c =
    let h = steps c.args.self.now c.new.self.now c.result c.ensures.cases c.ensures.left in
    record { steps = h.0; goes = h.1 }
