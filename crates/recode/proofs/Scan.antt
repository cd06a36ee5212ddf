-- A scan of one code that builds another: what it has so far is what lies before the place that it has come to.
use Rattle.std.proofs.Common.{◌≡◌, ℕ, ◌<◌, ◌≤◌, Bool, false, ◌&&◌, ltb, sym, ◌∙◌, arith}
use Rattle.std.proofs.lemmas.Bool.Decides.{nat_tests}
use Rattle.bits.specs.declared.value.Bits.{Bits}
use Rattle.packets.specs.declared.value.Packets.{Packets}
use Rattle.recode.specs.Between.{Match, Twins}
use Rattle.codes.specs.Sorts.{Agree}
use Rattle.bits.proofs.OneBits.{same_bits}
use Rattle.packets.specs.OnePackets.{same_packets}

abbrev pub Scanned : (ℕ → Bool) → (ℕ → Bool) → ℕ → Type 0
Scanned set now place = Agree 512 now (λ p. ltb p place && set p)

pub scan_all : (set now : ℕ → Bool) (from : ℕ) → Scanned set now from → ((p : ℕ) → from ≤ p → p < 512 → set p ≡ false) → Agree 512 now set
scan_all set now from so_far none p h = end (set p) (now p) from p (λ l. none p l h) (so_far p h)
  where
    end : (s n : Bool) (from p : ℕ) → (from ≤ p → s ≡ false) → n ≡ (ltb p from && s) → n ≡ s
    end s n from p g x = grind (arith, nat_tests)

pub twins : (b : Bits) (v : Packets) → Match b v → Twins b v
twins b v same = record {
  places = same;
  only_bits = λ c m. same_bits c b (λ p h. m p h ∙ sym (same p h));
  only_packets = λ w m. same_packets w v (λ p h. sym (m p h) ∙ same p h);
}
