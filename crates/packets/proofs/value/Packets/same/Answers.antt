use Rattle.std.proofs.Common.{◌≡◌, true, sym, ap, ◌∙◌}
use Rattle.std.proofs.lemmas.Bool.Decides.{Decides-eqb}
use Rattle.std.proofs.lemmas.Slice.Eq.{slice_eq-Decides}
use Rattle.packets.specs.Packets.{bounds_of, packets_have}
use Rattle.packets.specs.declared.value.Packets.{Packets}
use Rattle.packets.specs.OnePackets.{same_row, same_packets}
use Rattle.packets.proofs.value.Packets.same.Goals as goal

pub returns : goal.returns
returns c =
    let a = c.args.self.now in
    let b = c.args.other.now in
    let tells = slice_eq-Decides Decides-eqb c.as_slice.result.now c.as_slice-2.result.now c.eq.result c.eq.ensures in
    let here : c.eq.result ≡ true → a ≡ b = λ t. same_row a b (sym c.as_slice.ensures ∙ tells.0 t ∙ c.as_slice-2.ensures) in
    let back : a ≡ b → c.eq.result ≡ true = λ e. tells.1 (c.as_slice.ensures ∙ ap bounds_of e ∙ sym c.as_slice-2.ensures) in
    record { equal = (here, back); places = (λ t p _. ap (λ (v : Packets). packets_have v p) (here t), λ agree. back (same_packets a b agree)) }
