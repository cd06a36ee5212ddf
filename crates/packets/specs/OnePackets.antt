-- Each set of places has one packet code, and each packet code one row.
use Rattle.std.specs.Prelude.{◌≡◌, ◌-◌, ◌≤◌, true, ◌&&◌, ◌++◌, length, take, drop, replicate, nat_le}
use Rattle.std.proofs.Common.{sym, ap, ◌∙◌, arith}
use mathlib.Core.HLevel.{is_prop→PathP}
use denote.Struct.Props.{props}
use Rattle.std.proofs.Math.Seq.{take-append_seam, drop-append_seam}
use Rattle.std.proofs.lemmas.Bool.{le-leb, and_from, and_left}
use Rattle.packets.specs.declared.value.Packets.{Packets}
use Rattle.packets.specs.Bounds.{keeps_rule, inside}
use Rattle.packets.specs.Packets.{bounds_of, packets_have, zeros, row_keeps, packets_sort}
use Rattle.codes.specs.Sorts.{Agree, Lawful}
use Rattle.packets.specs.Found.{rising}
use Rattle.packets.specs.Parity.{inside-odd, one_row}
use Rattle.packets.specs.Rising.{rule_even, even_fits}
use Rattle.packets.specs.Zeros.{zeros-replicate}

-- packets are known by their bounds
pub same_row : (a b : Packets) → bounds_of a ≡ bounds_of b → a ≡ b
same_row a b e = λ i. record { row = e i; rule = is_prop→PathP (λ i. keeps_rule 512 (e i) ≡ true) (λ i. hlevel props) a.rule b.rule i }

-- and by the places that they mean
pub same_packets : (a b : Packets) → Agree 512 (packets_have a) (packets_have b) → a ≡ b
same_packets a b agree =
    same_row a b
    (one_row 512 0 (bounds_of a) (bounds_of b) (rising a) (rising b) (rule_even 512 (bounds_of a) a.rule ∙ sym (rule_even 512 (bounds_of b) b.rule))
    (λ p h. sym (inside-odd 512 (bounds_of a) p a.rule) ∙ agree p h ∙ inside-odd 512 (bounds_of b) p b.rule))

pub few_bounds : (v : Packets) → length (bounds_of v) ≤ 512
few_bounds v = even_fits 512 (bounds_of v) (omega arith) (rule_even 512 (bounds_of v) v.rule) (rising v)

-- what is written keeps the rule
pub row_kept : (v : Packets) → row_keeps (packets_sort.written v) ≡ true
row_kept v =
    let xs = bounds_of v in
    let rest = replicate (512 - length xs) 0 in
    and_from (nat_le (length xs) 512) (keeps_rule 512 (take (length xs) (xs ++ rest)) && zeros (drop (length xs) (xs ++ rest)))
    (le-leb (length xs) 512 (few_bounds v))
    (and_from (keeps_rule 512 (take (length xs) (xs ++ rest))) (zeros (drop (length xs) (xs ++ rest)))
    (ap (keeps_rule 512) (take-append_seam xs rest) ∙ v.rule) (ap zeros (drop-append_seam xs rest) ∙ zeros-replicate (512 - length xs)))

-- and has the bounds in it
pub row_back : (v : Packets) → take (packets_sort.written v).len (packets_sort.written v).bounds ≡ bounds_of v
row_back v = take-append_seam (bounds_of v) (replicate (512 - length (bounds_of v)) 0)

pub packets_lawful : Lawful packets_sort
packets_lawful = record {
  at_least_one = omega arith;
  few_places = omega arith;
  kept = row_kept;
  back = λ v p _. ap (λ t. t && inside (take (packets_sort.written v).len (packets_sort.written v).bounds) p) (row_kept v) ∙ ap (λ xs. inside xs p) (row_back v);
  broken = λ row e p _. and_left (row_keeps row) (inside (take row.len row.bounds) p) e;
}
