-- A word is carried out as its kind says.
use Rattle.std.proofs.Common.{◌≡◌, ℕ, ◌+◌, Bool, List, [], ◌∷◌, ◌++◌, length, Some, sym, ◌∙◌, subst, arith}
use Rattle.words.specs.declared.word.WordKind.{WordKind}
use Rattle.words.specs.declared.word.WordKind.TheVariants.{Name}
use Rattle.words.specs.declared.word.LowBits.TheVariants as low
use Rattle.words.specs.declared.word.StackEffect.{StackEffect}
use Rattle.words.specs.declared.word.WordRule.{WordRule}
use Rattle.words.specs.Words.{kind_number, low_bits, rule_of}
use Rattle.codes.specs.Sorts.{Sort, Agree}
use Rattle.stack.specs.declared.lent.Stack.{Stack}
use Rattle.stack.specs.Held.{held, SameSlots}
use Rattle.questions.specs.Questions.{applied, depth_after}
use Rattle.questions.specs.Entries.{Turned, Stepped}
use Rattle.questions.proofs.Seen.{turned_put}
use Rattle.questions.proofs.Table.{row_of, row_by_kind}

-- of the words of a question only a name has a serial
pub name_by_low : (n : ℕ) (e : StackEffect) → (rule_of n).low ≡ low.Serial → (rule_of n).effect ≡ Some e → (rule_of n).kind ≡ Name
name_by_low n e l s = grind arith

-- a word that takes nothing leaves this set, as its kind says
pub stepped_put : {S R : Type 0} (sort : Sort S R) (named : ℕ → ℕ → Bool) (whole : ℕ → Bool) (w : ℕ) (old new : Stack R) (r : R) (set : ℕ → Bool) (kind : WordKind) → (rule_of (kind_number w)).kind ≡ kind → ((p : ℕ) (entries : List Bool) → applied (λ k. named k p) (whole p) (row_of kind).kind (low_bits w) entries ≡ set p ∷ entries) → depth_after (length (held old)) (row_of kind).effect ≡ length (held old) + 1 → held new ≡ held old ++ r ∷ [] → SameSlots old new → Agree sort.width (sort.reads r) set → Stepped sort named whole w old new
stepped_put sort named whole w old new r set kind is leaves deep put s agree =
    let t = turned_put sort set old new r put s agree in
    let P : WordRule → Type 0 = λ rule. Turned sort (λ p. applied (λ k. named k p) (whole p) rule.kind (low_bits w)) (depth_after (length (held old)) rule.effect) old new in
    let q : P (row_of kind) = record { entries = λ p h. t.entries p h ∙ sym (leaves p _); deep = t.deep ∙ sym deep; slots = s } in
    subst P (sym (row_by_kind (kind_number w) kind is)) q
