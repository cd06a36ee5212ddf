use Rattle.std.proofs.Common.{◌≡◌, ◌&&◌, ◌||◌, refl, arith, rules}
use Rattle.words.specs.declared.word.WordKind.TheVariants.{All, Nothing}
use Rattle.words.specs.Words.{kind_number, rule_of}
use Rattle.questions.proofs.Steps.{stepped_put}
use Rattle.questions.proofs.step.operate.Goals as goal

pub returns-in-And : goal.returns-in-And
returns-in-And g c = let t = c.combine.ensures ◌&&◌ (λ a b left met. met) in search rules

pub returns-in-Or : goal.returns-in-Or
returns-in-Or g c = let t = c.combine-in-Or.ensures ◌||◌ (λ a b left met. met) in search rules

pub returns-in-All : goal.returns-in-All
returns-in-All g c =
    let kind : (rule_of (kind_number c.args.word)).kind ≡ All = search rules in
    stepped_put g.T.Truth.sort _ _ c.args.word c.args.stack.now c.put.new.stack _ _ All kind
    (λ p entries. refl)
    (omega arith)
    c.put.ensures.after
    c.put.ensures.slots
    c.all-in-All.ensures

pub returns-in-Nothing : goal.returns-in-Nothing
returns-in-Nothing g c =
    let kind : (rule_of (kind_number c.args.word)).kind ≡ Nothing = search rules in
    stepped_put g.T.Truth.sort _ _ c.args.word c.args.stack.now c.put-in-Nothing.new.stack _ _ Nothing kind
    (λ p entries. refl)
    (omega arith)
    c.put-in-Nothing.ensures.after
    c.put-in-Nothing.ensures.slots
    c.nothing.ensures
