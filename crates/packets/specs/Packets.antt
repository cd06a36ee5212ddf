-- What packets mean, and how they lie in a list.
use Rattle.std.specs.Prelude.{ℕ, ◌-◌, Bool, ◌&&◌, List, ◌++◌, length, take, drop, replicate, ◌==◌, nat_le}
use Rattle.std.specs.List.{list_all}
use Rattle.packets.specs.Bounds.{keeps_rule, inside}
use Rattle.codes.specs.Sorts.{Sort}
use Rattle.packets.specs.declared.value.Packets.{Packets}
use Rattle.packets.specs.declared.row.PacketRow.{PacketRow}

-- the bounds of packets, in order
abbrev pub bounds_of : Packets → List ℕ
bounds_of v = v.row

-- the places of packets: those that lie in one
abbrev pub packets_have : Packets → ℕ → Bool
packets_have v = inside (bounds_of v)

-- each number is 0
abbrev pub zeros : List ℕ → Bool
zeros ns = list_all (λ n. n == 0) ns

-- a row holds packets: at most 512 bounds that keep the rule, and 0 at each place past them
abbrev pub row_keeps : PacketRow → Bool
row_keeps row = nat_le row.len 512 && (keeps_rule 512 (take row.len row.bounds) && zeros (drop row.len row.bounds))

-- the row that bounds lie in a list as: 0 at each place past them
abbrev pub row_of : List ℕ → PacketRow
row_of bounds = record { bounds = bounds ++ replicate (512 - length bounds) 0; len = length bounds }

-- packets as a sort of code: a row that breaks the rule is read as the empty set
abbrev pub packets_sort : Sort Packets PacketRow
packets_sort = record {
  width = 512;
  means = packets_have;
  written = λ v. row_of v.row;
  keeps = row_keeps;
  reads = λ row p. row_keeps row && inside (take row.len row.bounds) p;
}
