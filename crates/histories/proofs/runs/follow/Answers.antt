use Rattle.histories.proofs.Following.{holds_next, holds-all, same_then}
use Rattle.histories.proofs.runs.follow.Goals as goal

pub loop-call-preserved : goal.loop-call-preserved
loop-call-preserved g c =
    let l = c.loop-call in (
      same_then _ _ _ l.invariant.0 c.make.ensures.lent,
      λ m h.
          holds_next _ _ _ _ _ _ m c.args.calls.now l.call-index _ _ c.loop-call-test.true l.invariant.0.long
          c.make.ensures.answered (l.invariant.1 m h),
    )

pub returns-clause-held : goal.returns-clause-held
returns-clause-held g c = λ m h. holds-all _ _ _ m c.args.calls.now c.loop-call.call-index c.loop-call-test.false (c.loop-call.invariant.1 m h)
