use Rattle.std.proofs.Common.{Bool, ◌&&◌, sym, ap, ◌∙◌, arith}
use Rattle.std.proofs.lemmas.Bool.{lt-ltb}
use Rattle.packets.specs.Packets.{packets_have}
use Rattle.packets.specs.Found.{has_count}
use Rattle.packets.proofs.code.PacketsCode.has.Goals as goal

pub returns : goal.returns
returns c =
    let v = c.args.self.now in
    let p = c.args.place in
    sym (has_count v p c.below.result c.below.ensures.count) ∙ ap (λ (t : Bool). t && packets_have v p) (sym (lt-ltb p 512 (omega arith)))
