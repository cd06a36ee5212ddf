-- What is known once the checks before a question have passed.
use Rattle.std.proofs.Common.{◌≡◌, ℕ, ◌+◌, ◌≤◌, true, None, arith}
use Rattle.std.proofs.lemmas.Bool.Decides.{nat_tests}
use Rattle.catalogue.specs.Ledger.{Ledger}
use Rattle.asking.specs.Asking.{ask_refusal, fit_refusal}

-- the answer has room, and the catalogue is closed
pub ask_ready : (l : Ledger) (table answer working : ℕ) → ask_refusal l table answer working ≡ None → (l.wide + 1 ≤ answer) × (l.closed ≡ true)
ask_ready l table answer working e = (grind (arith, nat_tests), grind (arith, nat_tests))

pub fit_ready : (l : Ledger) (table working : ℕ) → fit_refusal l table working ≡ None → l.closed ≡ true
fit_ready l table working e = grind (arith, nat_tests)
