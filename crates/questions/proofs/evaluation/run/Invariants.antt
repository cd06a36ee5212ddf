use Rattle.std.proofs.Common.{◌≡◌, ℕ, ◌<◌, length}
use Rattle.stack.specs.Held.{held, SameSlots}
use Rattle.questions.specs.Questions.{holds, value_of, words_refusal, question_refusal}
use Rattle.questions.specs.Reading.{place, unread}
use Rattle.questions.specs.Entries.{seen}
use Rattle.questions.proofs.evaluation.run.Given as goal

-- what is left to read decides the refusal and the value
abbrev pub invariant-loop-placed : goal.invariant-loop-placed
invariant-loop-placed g l =
    let s = g.T.Truth.sort in
    let names = g.N.Names in
    let reader = l.placed-iterator in
    record {
      refusal : words_refusal (names.standing l.names) (place reader) (length (held l.stack)) (unread reader) ≡ question_refusal (names.standing l.names) l.words;
      value : (p : ℕ) → p < s.width →
          holds (λ k. names.named l.names k p) (names.whole l.names p) (seen s p l.stack) (unread reader)
          ≡ value_of (names.named l.names) (names.whole l.names) l.words p;
      slots : SameSlots l.initial.stack l.stack;
    }
