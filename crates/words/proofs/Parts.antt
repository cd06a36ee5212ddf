-- A word made of its kind and its low bits, and taken apart again.
use Rattle.std.proofs.Common.{◌≡◌, ℕ, ◌/◌, ◌^◌, ◌<◌, true, not, None, arith}
use Rattle.std.proofs.lemmas.Bool.{eq-eqb, eqb-true, not-false, not_from_true}
use Rattle.words.specs.declared.refusal.Refusal.{Refusal}
use Rattle.words.specs.declared.word.WordKind.{WordKind}
use Rattle.words.specs.Words.{kind_number, number_of, low_bits, is_kind, word_of}
use Rattle.words.specs.Refusals.{refuse_if}
use Rattle.words.proofs.Chain.{unrefused, not-refused}

pub low_same : (x : ℕ) → x < 2 ^ 28 → low_bits x ≡ x
low_same x l = omega arith

pub kind_of : (kind : WordKind) (x : ℕ) → x < 2 ^ 28 → is_kind kind (word_of kind x) ≡ true
kind_of kind x l = eq-eqb (kind_number (word_of kind x)) (number_of kind) (omega arith)

pub low_of : (kind : WordKind) (x : ℕ) → x < 2 ^ 28 → low_bits (word_of kind x) ≡ x
low_of kind x l = omega arith

pub word_back : (kind : WordKind) (w : ℕ) → is_kind kind w ≡ true → word_of kind (low_bits w) ≡ w
word_back kind w e = let k : w / 2 ^ 28 ≡ number_of kind = eqb-true (kind_number w) (number_of kind) e in omega arith

-- the check of a word's kind passes
pub kind_passes : (kind : WordKind) (x : ℕ) (r : Refusal) → x < 2 ^ 28 → refuse_if (not (is_kind kind (word_of kind x))) r ≡ None
kind_passes kind x r l = unrefused (not (is_kind kind (word_of kind x))) r (not_from_true (is_kind kind (word_of kind x)) (kind_of kind x l))

-- and where it passed, the word is of the kind
pub was_kind : (kind : WordKind) (w : ℕ) (r : Refusal) → refuse_if (not (is_kind kind w)) r ≡ None → is_kind kind w ≡ true
was_kind kind w r e = not-false (is_kind kind w) (not-refused (not (is_kind kind w)) r e)
