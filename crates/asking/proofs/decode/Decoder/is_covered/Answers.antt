use Rattle.std.proofs.Common.{◌&&◌, ap, ◌∙◌, rules}
use Rattle.asking.proofs.Covering.{apart_met}
use Rattle.asking.proofs.decode.Decoder.is_covered.Goals as goal

pub returns : goal.returns
returns g c =
    let s = g.C.Truth.sort in
    let out = s.means c.args.self.now.outside in
    let met =
    apart_met s.width (s.reads c.args.row) out _ c.next.result
    (λ p h. c.meet.ensures p h ∙ ap (λ b. b && out p) (c.read-left.ensures.set p h))
    c.next.ensures in
    search rules
