-- Each set of places has one code in bits.
use Rattle.std.proofs.Common.{◌≡◌, ℕ, ◌+◌, ◌*◌, ◌^◌, ◌<◌, List, length, get_or, sym, ◌∙◌, arith}
use mathlib.Core.HLevel.{is_prop→PathP}
use denote.Struct.Props.{props}
use Rattle.std.proofs.lemmas.Nat.{div-mul-add, mod-mul-add}
use Rattle.std.proofs.lemmas.List.{ext_get_or}
use Rattle.bits.specs.declared.value.Bits.{Bits}
use Rattle.bits.specs.Bits.{bit_at, words_have}
use Rattle.codes.specs.Sorts.{Agree}
use Rattle.bits.proofs.Digits.{digits_tell}

-- bits are known by their words
pub same_words : (a b : Bits) → a.words ≡ b.words → a ≡ b
same_words a b e = λ i. record {
  words = e i;
  whole = is_prop→PathP (λ i. length (e i) ≡ 8) (λ i. hlevel props) a.whole b.whole i;
  fits = is_prop→PathP (λ i. (k : ℕ) → get_or (e i) k 0 < 2 ^ 64) (λ i. hlevel props) a.fits b.fits i;
}

bit_of : (words : List ℕ) (k p : ℕ) → p < 64 → words_have words (k * 64 + p) ≡ bit_at (get_or words k 0) p
bit_of words k p h = rw (div-mul-add k 64 p h, mod-mul-add k 64 p h)

pub same_bits : (a b : Bits) → Agree 512 (words_have a.words) (words_have b.words) → a ≡ b
same_bits a b agree =
    same_words a b
    (ext_get_or 0 a.words b.words (a.whole ∙ sym b.whole)
    (λ k h. digits_tell (get_or a.words k 0) (get_or b.words k 0) (a.fits k) (b.fits k)
    (λ p l. sym (bit_of a.words k p l) ∙ agree (k * 64 + p) (omega (arith, a.whole)) ∙ bit_of b.words k p l)))
