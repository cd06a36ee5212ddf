use Rattle.std.proofs.Common.{◌≡◌, ◌/◌, ◌%◌, ◌^◌, rules, refl, ◌∙◌, arith}
use Rattle.terminal.specs.Numbers.{hex_digit}
use Rattle.terminal.proofs.Mapped.{mapped}
use Rattle.terminal.proofs.word.hex_digits.Goals as goal

pub returns : goal.returns
returns c =
    let word = c.args.word in
    let first : word / 268435456 % 16 ≡ word / 268435456 = omega arith in
    let last : word / 1 ≡ word = omega arith in
    let digits = mapped _ (λ place. hex_digit (word / 2 ^ (place % 32) % 16)) _ _ _ 8 c.map.ensures.items refl (λ x y q k. search rules) in
    digits ∙ rw (first, last)
