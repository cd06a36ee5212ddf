-- The ledger's call that a step makes, and how a step is shown.
use Rattle.std.specs.Prelude.{ℕ, List, ◌++◌, codes, decimal}
use Rattle.catalogue.specs.Ledger.{Call, enter, withdraw, enter_line, withdraw_line}
use Rattle.showing.specs.declared.steps.Step.{Step}
use Rattle.showing.specs.declared.steps.Step.TheVariants.{Enter, Withdraw, Line, Unline}

abbrev pub call_of : Step → Call
call_of (Enter serial) = enter serial
call_of (Withdraw serial) = withdraw serial
call_of (Line child parent) = enter_line child parent
call_of (Unline child parent) = withdraw_line child parent

abbrev pub step_text : Step → List ℕ
step_text (Enter serial) = codes "enter " ++ decimal serial
step_text (Withdraw serial) = codes "withdraw " ++ decimal serial
step_text (Line child parent) = codes "line " ++ decimal child ++ codes " " ++ decimal parent
step_text (Unline child parent) = codes "unline " ++ decimal child ++ codes " " ++ decimal parent
