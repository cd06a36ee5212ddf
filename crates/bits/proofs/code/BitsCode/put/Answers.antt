use Rattle.std.proofs.Common.{◌/◌, ◌^◌, get_or, arith}
use Rattle.std.proofs.lemmas.Nat.{mod_below, or_lt}
use Rattle.bits.proofs.WordRows.{fit_set, put_place}
use Rattle.bits.proofs.code.BitsCode.put.Goals as goal

pub invariant_of-self-clause-fits : goal.invariant_of-self-clause-fits
invariant_of-self-clause-fits c =
    let self = c.args.self.now in
    let both = or_lt 64 (get_or self.words (c.args.place / 64) 0) _ (self.fits (c.args.place / 64)) (mod_below _ (2 ^ 64) (omega arith)) in
    let below = c.in_ok-within_width.ensures.below in
    fit_set self.words (c.args.place / 64) _ (omega arith) both self.fits

pub returns : goal.returns
returns c =
    let below = c.in_ok-within_width.ensures.below in
    (below, λ p _. put_place c.args.self.now.words c.args.place (omega arith) p)
