use Rattle.std.proofs.Common.{rules}
use Rattle.std.proofs.lemmas.List.Sorted.{answers_always}
use Rattle.search.proofs.Halving.{in_range, searched}
use Rattle.search.proofs.spot.locate.Goals as goal

pub returns : goal.returns
returns g c =
    let facts = c.binary_search_by_key.ensures in
    let by_key = facts.position g.T.Keyed.key (answers_always _ _ _ (λ f a r h called. search rules)) in
    record { within = in_range _ _ facts.bound; located = searched g.T.Keyed.key _ _ _ facts.bound by_key }
