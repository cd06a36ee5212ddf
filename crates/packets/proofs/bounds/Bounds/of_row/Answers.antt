use Rattle.std.proofs.Common.{◌&&◌, leb, take, drop, replicate, ap, ◌∙◌, arith, length-drop}
use Rattle.std.proofs.lemmas.Bool.{leb-true, and_parts}
use Rattle.packets.specs.Bounds.{keeps_rule}
use Rattle.packets.specs.Packets.{zeros}
use Rattle.packets.specs.Zeros.{zeros_told}
use Rattle.packets.proofs.bounds.Bounds.of_row.Goals as goal

pub invariant_of-result : goal.invariant_of-result
invariant_of-result c =
    let row = c.args.row in
    let few = and_parts (leb row.len 512) (keeps_rule 512 (take row.len row.bounds) && zeros (drop row.len row.bounds)) c.requires in
    let past = and_parts (keeps_rule 512 (take row.len row.bounds)) (zeros (drop row.len row.bounds)) few.1 in
    record {
      whole = omega arith;
      few = leb-true row.len 512 few.0;
      clear = zeros_told (drop row.len row.bounds) past.1 ∙ ap (λ n. replicate n 0) (omega (arith, length-drop row.len row.bounds));
    }
