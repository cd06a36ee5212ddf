use Rattle.std.proofs.Common.{length, take, drop, ◌-◌, vec_items, ◌∙◌}
use Rattle.std.proofs.lemmas.List.{take_rest}
use Rattle.descent.specs.declared.line.Line.{Line}
use Rattle.formats.specs.Formats.{pairs_in}
use Rattle.catalogue.proofs.Filling.{line_pushed, rising_front}
use Rattle.catalogue.proofs.image.take_lines.Goals as goal

pub push-requires-clause-rising : goal.push-requires-clause-rising
push-requires-clause-rising c =
    let l = c.loop-left in
    let ws = l.left.now in
    let lines = vec_items l.lines.entries in
    let x : Line = record { child = c.low_bits.result; parent = c.low_bits-in-len2-up.result } in
    let rest = take (length ws - 2) (drop 2 ws) in
    let whole = line_pushed lines x.child x.parent ws rest c.in-len2-up.len_at_least c.low_bits.ensures c.low_bits-in-len2-up.ensures (take_rest ws 2) ∙ l.invariant.entries in
    rising_front lines (pairs_in rest) (pairs_in c.args.words.now) x whole c.requires.rising
