use Rattle.std.proofs.Common.{Bool, [], ◌∷◌, ◌++◌, map, vec_items, sym, ap, ◌∙◌}
use Rattle.std.specs.Prelude.{if◌then◌else◌}
use Rattle.std.proofs.lemmas.List.{map_push}
use Rattle.catalogue.specs.Ledger.{blank}
use Rattle.histories.specs.Sayings.{Saying}
use Rattle.promise.specs.Runs.{shown}
use Rattle.promise.proofs.Following.{followed_next}
use Rattle.promise.proofs.runs.run.Goals as goal

pub loop-call-preserved : goal.loop-call-preserved
loop-call-preserved g c =
    let l = c.loop-call in
    let past = map shown (vec_items l.said) in
    let all = vec_items l.said ++ c.in_ok-kept.kept ∷ [] in
    let next =
    followed_next _ _ _ _ _ _ (blank g.C.Truth.sort.width) c.args.calls.now l.call-index _ past _ _ c.loop-call-test.true l.invariant.2
    (ap (map shown) (c.push.ensures.items ∙ ap (λ (ok : Bool). if ok then all else vec_items l.said) (sym c.in_ok-map_err.ensures.variant)) ∙ map_push shown (vec_items l.said) c.in_ok-kept.kept
    ∙ ap (λ (s : Saying). past ++ s ∷ []) c.in_ok-kept.ensures)
    c.make-reply.ensures.proper c.make-reply.ensures.answered (l.invariant.0, l.invariant.1) in
    (next.0, next.1, c.make-reply.ensures.lent.long ∙ l.invariant.2)
