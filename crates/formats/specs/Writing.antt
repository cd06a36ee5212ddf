-- What is written onto a stack of words.
use Rattle.std.specs.Prelude.{◌≡◌, ℕ, ◌+◌, List, length}
use Rattle.std.proofs.Math.Seq.{paste}
use Rattle.stack.specs.declared.lent.Stack.{Stack}

-- these words are written behind those that are there, and nothing else changes
pub record Writes (old new : Stack ℕ) (words : List ℕ) : Type 0 where
  pub count : new.depth ≡ old.depth + length words
  pub list : new.slots.now ≡ paste old.slots.now old.depth words (length words)
  pub room : length new.slots.now ≡ length old.slots.now
