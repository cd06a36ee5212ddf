use Rattle.std.proofs.Common.{◌≡◌, ℕ, ◌+◌, ◌-◌, drop}
use Rattle.words.specs.declared.refusal.Refusal.{Refusal}
use Rattle.formats.specs.Formats.{names_refusal}
use Rattle.formats.proofs.names.check_names.Given as goal

-- the names passed are right, so that what is wrong lies in the rest
abbrev pub invariant-loop-i : goal.invariant-loop-i
invariant-loop-i l = (due : ℕ → Refusal) → names_refusal due l.count 0 1 l.words ≡ names_refusal due (l.count - l.i) l.last (l.i + 1) (drop l.i l.words)
