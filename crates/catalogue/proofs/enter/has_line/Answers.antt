use Rattle.std.proofs.Common.{◌≡◌, ℕ, ◌||◌, eqb, List, [], ◌∷◌, refl, ap, ◌∙◌, rules, tests}
use Rattle.std.specs.List.{list_any}
use Rattle.std.proofs.lemmas.Iterator.{YieldsList-from_slice}
use Rattle.std.proofs.lemmas.Iterator.Search.{any_from_yields_List}
use Rattle.descent.specs.declared.line.Line.{Line}
use Rattle.descent.specs.Lines.{mentioned}
use Rattle.catalogue.proofs.enter.has_line.Goals as goal

some_line : (x : ℕ) (ls : List Line) → list_any (λ l. eqb l.child x || eqb l.parent x) ls ≡ mentioned x ls
some_line x [] = refl
some_line x (l ∷ ls) = ap (λ b. (eqb l.child x || eqb l.parent x) || b) (some_line x ls)

pub returns : goal.returns
returns c =
    let x = c.args.serial in
    any_from_yields_List (λ (l : Line). eqb l.child x || eqb l.parent x) _ _ _ c.any.ensures.ran (YieldsList-from_slice c.args.lines.now cc) (λ l b q k. search (rules, tests))
    ∙ some_line x c.args.lines.now
