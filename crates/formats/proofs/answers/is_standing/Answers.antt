use Rattle.std.proofs.Common.{◌∙◌}
use Rattle.descent.specs.Lines.{serials_of}
use Rattle.search.proofs.Spots.{ok_stands}
use Rattle.formats.proofs.answers.is_standing.Goals as goal

pub returns : goal.returns
returns c =
    let s = c.args.standing.now in
    c.is_ok.ensures.value ∙ ok_stands (serials_of s.kinds.now) _ _ (c.locate.ensures.located s.rising)
