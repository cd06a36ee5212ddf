-- A code in bits and a packet code that say the same.
use Rattle.std.specs.Prelude.{◌≡◌}
use Rattle.bits.specs.declared.value.Bits.{Bits}
use Rattle.packets.specs.declared.value.Packets.{Packets}
use Rattle.bits.specs.Bits.{bits_sort}
use Rattle.packets.specs.Packets.{packets_sort}
use Rattle.codes.specs.Sorts.{Agree}

-- they have the same places
abbrev pub Match : Bits → Packets → Type 0
Match b v = Agree 512 (bits_sort.means b) (packets_sort.means v)

-- they match, and match no other
pub record Twins (b : Bits) (v : Packets) : Type 0 where
  pub places : Match b v
  pub only_bits : (c : Bits) → Match c v → c ≡ b
  pub only_packets : (w : Packets) → Match b w → w ≡ v
