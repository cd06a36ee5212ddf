use Rattle.std.proofs.Common.{◌-◌, min, true, false, length, take, drop, sym, ap, ◌∙◌}
use Rattle.std.proofs.lemmas.List.{take_rest}
use Rattle.protocol.proofs.Ends.{no_head, kit_ends, kit_is}
use Rattle.protocol.proofs.kits.kit_length.Goals as goal
use Rattle.protocol.proofs.kits.kit_length.Goals.{then-is_kind, else-is_kind}

pub returns-clause-value : goal.returns-clause-value
returns-clause-value c =
    let words = c.args.words.now in
    let rest = take (length words - 1) (drop 1 words) in
    elim c.if-is_kind.branch [
      | then-is_kind w ↦
          kit_is words rest true _ _ c.in-len1-up.len_at_least (take_rest words 1) (sym c.is_kind.ensures ∙ w.if-is_kind.true)
          (w.most-is ∙ w.min-most.ensures ∙ ap (min (length rest)) w.low_bits.ensures) c.before_head.ensures.value
      | else-is_kind w ↦
          kit_is words rest false _ _ c.in-len1-up.len_at_least (take_rest words 1) (sym c.is_kind.ensures ∙ w.if-is_kind.false) w.most-is
          c.before_head.ensures.value
    ]

pub returns-clause-one : goal.returns-clause-one
returns-clause-one c = λ k some less. no_head c.args.words.now _ k (returns-clause-value c) some less

pub returns-clause-stops : goal.returns-clause-stops
returns-clause-stops c = λ less. kit_ends c.args.words.now _ (returns-clause-value c) less
