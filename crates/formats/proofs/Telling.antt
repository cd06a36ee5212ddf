-- How a fault that `?` passes on tells its refusal.
use Rattle.std.proofs.Common.{◌≡◌, Some, Option, Result, Ok, Err, IsErrAnd}
use Rattle.words.specs.declared.refusal.Refusal.{Refusal}
use Rattle.words.specs.Refusals.{Says}

pub says_err : {T F : Type 0} (told : F → Refusal) {P : F → Type 0} (r : Result T F) (due : Option Refusal) → IsErrAnd r P → ((f : F) → P f → due ≡ Some (told f)) → Says told r due
says_err told (Ok x) due h is = absurd h
says_err told (Err f) due h is = is f h
