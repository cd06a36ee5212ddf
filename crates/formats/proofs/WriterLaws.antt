-- What is written onto a stack of words, put by put.
use Rattle.std.proofs.Common.{◌≡◌, ℕ, List, [], ◌++◌, length, drop, sym, refl, ap, ◌∙◌, ap₂, arith}
use lib.Seq.{paste}
use Rattle.std.proofs.lemmas.List.Edits.{paste-paste, paste_all}
use Rattle.std.proofs.lemmas.List.{length-append, length-take-le}
use Rattle.stack.specs.Held.{held}
use Rattle.stack.specs.declared.lent.Stack.{Stack}
use Rattle.formats.specs.Writing.{Writes}

pub depth_held : (s : Stack ℕ) → length (held s) ≡ s.depth
depth_held s = length-take-le s.depth s.slots.now s.within

-- a new stack is written from the start of its list
pub from_start : (s : Stack ℕ) → held s ≡ [] → s.depth ≡ 0
from_start s e = sym (depth_held s) ∙ ap length e

-- words behind words
pub writes_more : (a b c : Stack ℕ) (s t us : List ℕ) → Writes a b s → Writes b c t → us ≡ s ++ t → Writes a c us
writes_more a b c s t us p q e =
    let long = ap length e ∙ length-append s t in
    record {
      count = omega (arith, p.count, q.count);
      list = q.list ∙ ap₂ (λ (ys : List ℕ) (i : ℕ). paste ys i t (length t)) p.list p.count
          ∙ paste-paste a.slots.now a.depth s t (length s) (length t) refl refl a.within ∙ ap₂ (λ (ys : List ℕ) (n : ℕ). paste a.slots.now a.depth ys n) (sym e) (sym long);
      room = q.room ∙ p.room;
    }

-- what the lender of a list has at the end, where it was written from the start
pub writes_all : (a b : Stack ℕ) (words old new : List ℕ) → a.depth ≡ 0 → a.slots.now ≡ old → Writes a b words → new ≡ b.slots.now → (b.depth ≡ length words) × (new ≡ words ++ drop (length words) old)
writes_all a b words old new zero same p e = (
  omega (arith, p.count),
  e ∙ p.list ∙ ap₂ (λ (i : ℕ) (ys : List ℕ). paste ys i words (length words)) zero same ∙ paste_all old 0 words (length words) refl ∙ ap (λ (i : ℕ). words ++ drop i old) (omega arith),
)
