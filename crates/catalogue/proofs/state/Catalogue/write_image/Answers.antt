use Rattle.formats.specs.Images.{TellsApart}
use Rattle.catalogue.specs.View.{view}
use Rattle.catalogue.proofs.Shown.{as_shown}
use Rattle.catalogue.proofs.state.Catalogue.write_image.Goals as goal

pub returns-clause-alone : goal.returns-clause-alone
returns-clause-alone c = as_shown (λ _ ks _ ls. TellsApart ks ls) (view c.args.self.now) _ c.standing.ensures c.write_image.ensures.alone
