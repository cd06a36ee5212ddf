use Rattle.std.proofs.Common.{◌<◌, false, length, ◌∙◌, arith}
use Rattle.catalogue.specs.View.{view}
use Rattle.asking.proofs.Asked.{fitted_set}
use Rattle.asking.proofs.Refused.{fit_ready}
use Rattle.asking.proofs.fitting.fit.Goals as goal

pub returns-clause-value : goal.returns-clause-value
returns-clause-value g c belongs =
    let a = c.args in
    let closed = fit_ready (view a.catalogue.now).book (length a.table.now) (length a.working.now) c.in_ok-check_fit.ensures in
    let found = c.in_ok-place.ensures in
    let first : 0 < 1 = omega arith in
    c.in_ok-evaluate.ensures.value false 0 first
    ∙ fitted_set g.C.Truth.sort a.catalogue.now a.table.now belongs closed a.words.now a.serial c.in_ok-place.place found.stood found.value
