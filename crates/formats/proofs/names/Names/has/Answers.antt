use Rattle.std.proofs.Common.{◌∙◌}
use Rattle.search.proofs.Spots.{ok_stands}
use Rattle.formats.specs.Formats.{serials_in}
use Rattle.formats.proofs.names.Names.has.Goals as goal

pub returns : goal.returns
returns c = c.is_ok.ensures.value ∙ ok_stands (serials_in c.args.self.now.words.now) _ _ (c.locate.ensures.located c.args.self.now.rising)
