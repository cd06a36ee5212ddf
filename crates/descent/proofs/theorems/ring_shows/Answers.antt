use Rattle.descent.proofs.Rings.{ring_shows}
use Rattle.descent.proofs.theorems.ring_shows.Goals as goal

pub returns : goal.returns
returns c = ring_shows
