use Rattle.std.proofs.Common.{◌≡◌, Some, refl, arith, rules}
use Rattle.words.specs.declared.word.LowBits.TheVariants as low
use Rattle.words.specs.declared.word.WordKind.TheVariants.{Name}
use Rattle.words.specs.Words.{kind_number, low_bits, rule_of}
use Rattle.codes.specs.Sorts.{Agree}
use Rattle.questions.proofs.Steps.{name_by_low, stepped_put}
use Rattle.questions.proofs.Table.{row_by_kind}
use Rattle.questions.proofs.step.step.Goals as goal

pub put-requires : goal.put-requires
put-requires g c =
    let v = c.in_ok-named.ensures.value in
    let e = c.in_ok-check_effect.ensures in
    let l : (rule_of (kind_number c.args.placed.word)).low ≡ low.Serial = search rules in
    let s : (rule_of (kind_number c.args.placed.word)).effect ≡ Some c.in-Some.effect = search rules in
    let k = name_by_low (kind_number c.args.placed.word) c.in-Some.effect l s in
    let r = row_by_kind (kind_number c.args.placed.word) Name k in
    search rules

pub returns-in-Some-named-clause-after : goal.returns-in-Some-named-clause-after
returns-in-Some-named-clause-after g c =
    let v = c.in_ok-named.ensures.value in
    let l : (rule_of (kind_number c.args.placed.word)).low ≡ low.Serial = search rules in
    let s : (rule_of (kind_number c.args.placed.word)).effect ≡ Some c.in-Some.effect = search rules in
    let a : Agree g.T.Truth.sort.width (g.T.Truth.sort.reads c.in-Some-named.row) (g.N.Names.named c.args.names.now (low_bits c.args.placed.word)) = search rules in
    stepped_put g.T.Truth.sort _ _ c.args.placed.word c.args.stack.now c.put.new.stack _ _ Name
    (name_by_low (kind_number c.args.placed.word) c.in-Some.effect l s)
    (λ p entries. refl)
    (omega arith)
    c.put.ensures.after
    c.put.ensures.slots
    a
