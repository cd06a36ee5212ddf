use Rattle.std.proofs.Common.{◌≡◌, ℕ, ◌+◌, ◌≤◌, ◌&&◌, ◌||◌, ltb, leb, Bool, sym, ap, ◌∙◌, subst, add-one, arith}
use Rattle.std.proofs.lemmas.Bool.Decides.{nat_tests}
use Rattle.bits.specs.declared.value.Bits.{Bits}
use Rattle.bits.specs.Bits.{words_have}
use Rattle.packets.specs.Packets.{bounds_of}
use Rattle.codes.specs.Sorts.{Agree}
use Rattle.recode.proofs.Runs.{in_first, first_none, first_more, first_all}
use Rattle.recode.proofs.Scan.{twins}
use Rattle.recode.proofs.between.bits_of.Goals as goal
use Rattle.recode.proofs.between.bits_of.Goals.{in-Some+else-loop-place-test, in_default}

pub loop-index-preserved : goal.loop-index-preserved
loop-index-preserved c =
    let xs = bounds_of c.args.packets.now in
    let n = c.loop-index.index in
    let so_far = λ (b : Bits). Agree 512 (words_have b.words) (in_first (n + 1) xs) in
    elim c.match-packet.branch [
      | in-Some+else-loop-place-test w ↦ subst so_far (sym w.bits-is) (λ p h.
          w.loop-place.invariant p h ∙ past w.in-Some.first w.in-Some.after w.loop-place.place p (in_first n xs p) w.loop-place-test.false
          ∙ sym (first_more xs n w.in-Some.first w.in-Some.after p (sym c.packet.ensures.value ∙ w.in-Some.is)) ∙ ap (λ k. in_first k xs p) (sym (add-one n)))
      | in_default w ↦ subst so_far (sym w.bits-is) (λ p h.
          c.loop-index.invariant p h ∙ sym (first_none xs n p (sym c.packet.ensures.value ∙ w.in_default.is)) ∙ ap (λ k. in_first k xs p) (sym (add-one n)))
    ]
  where
    past : (l u place p : ℕ) (t : Bool) → u ≤ place → ((leb l p && (ltb p place && ltb p u)) || t) ≡ ((leb l p && ltb p u) || t)
    past l u place p t h = grind (arith, nat_tests)

pub returns : goal.returns
returns c =
    let packets = c.args.packets.now in
    twins c.loop-index.bits packets (λ p h. c.loop-index.invariant p h ∙ first_all (bounds_of packets) c.loop-index.index p (omega (arith, c.count-index-end.ensures)))
