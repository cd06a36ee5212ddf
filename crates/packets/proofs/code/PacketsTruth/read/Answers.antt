use Rattle.std.proofs.Common.{take, sym, ap, ◌∙◌}
use Rattle.std.proofs.lemmas.Bool.{both_ways}
use Rattle.packets.specs.declared.row.PacketRow.{PacketRow}
use Rattle.packets.specs.Packets.{row_keeps}
use Rattle.packets.specs.OnePackets.{same_row, row_kept, row_back}
use Rattle.packets.proofs.code.PacketsTruth.read.Goals as goal

pub returns-clause-back : goal.returns-clause-back
returns-clause-back c = λ v e. same_row _ v (c.of_row.ensures ∙ ap (λ (r : PacketRow). take r.len r.bounds) e ∙ row_back v)

pub returns-then-not-keeps_rule-clause-back : goal.returns-then-not-keeps_rule-clause-back
returns-then-not-keeps_rule-clause-back c =
    λ v e. absurd (both_ways (row_keeps c.args.row) (sym c.if-not-keeps_rule.ensures) (ap row_keeps e ∙ row_kept v))
