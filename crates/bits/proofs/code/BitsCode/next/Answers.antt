use Rattle.std.proofs.Common.{◌+◌, ◌*◌, ◌/◌, ◌%◌, ◌<◌, ◌≤◌, length, [], ◌∷◌, refl, ⊎_elim, rules, arith}
use Rattle.std.proofs.lemmas.Bool.{cases_lt}
use Rattle.std.proofs.lemmas.List.{length-append}
use Rattle.std.proofs.lemmas.Iterator.Consumers.{YieldsList-turn, YieldsList-end}
use Rattle.bits.proofs.WordRows.{none_in_word, first_in_word, later_road, later_count, later_word}
use Rattle.bits.proofs.code.BitsCode.next.Goals as goal

pub returns-then-rest-ne0 : goal.returns-then-rest-ne0
returns-then-rest-ne0 c =
    let from = c.args.from in
    first_in_word c.args.self.now.words (from / 64) (from % 64) from _ (omega arith) (omega arith) refl c.args.self.now.fits (omega arith) (omega arith)

pub loop-i-init : goal.loop-i-init
loop-i-init c =
    let from = c.args.from in
    λ p h l. none_in_word c.args.self.now.words (from / 64) (from % 64) from _ (omega arith) (omega arith) refl (omega arith) p h (omega arith)

pub loop-i-preserved : goal.loop-i-preserved
loop-i-preserved c =
    let self = c.args.self.now in
    let start = c.args.from / 64 + 1 in
    let i = c.in-Some.i in
    let road = later_road self.words start c.into_iter-i-iterator.result (search rules) (search rules) (search rules) in
    let turn = YieldsList-turn road c.loop-i.yielded _ c.loop-i.yielded_by _ _ (i, c.in-Some.word) c.in-Some.is c.next.ensures.steps in
    let at = later_word self.words start (length c.loop-i.yielded) i c.in-Some.word.now turn.0 turn.1 in
    let one = length-append c.loop-i.yielded ((i, c.in-Some.word) ∷ []) in
    λ p h l. ⊎_elim
    (λ (b : p < i * 64). c.loop-i.invariant p h (omega (arith, at.0)))
    (λ (b : i * 64 ≤ p). none_in_word self.words i 0 (i * 64) _ (omega arith) (omega arith) (omega (arith, at.1)) c.if-word-ne0.false p b (omega (arith, at.0, one)))
    (cases_lt p (i * 64))

pub returns-then-word-ne0 : goal.returns-then-word-ne0
returns-then-word-ne0 c =
    let self = c.args.self.now in
    let start = c.args.from / 64 + 1 in
    let i = c.in-Some.i in
    let road = later_road self.words start c.into_iter-i-iterator.result (search rules) (search rules) (search rules) in
    let turn = YieldsList-turn road c.loop-i.yielded _ c.loop-i.yielded_by _ _ (i, c.in-Some.word) c.in-Some.is c.next.ensures.steps in
    let at = later_word self.words start (length c.loop-i.yielded) i c.in-Some.word.now turn.0 turn.1 in
    let count = later_count self.words start in
    let n = first_in_word self.words i 0 (i * 64) c.in-Some.word.now (omega arith) (omega arith) (omega (arith, at.1)) self.fits (omega (arith, self.whole, count, turn.0, at.0)) (omega arith) in (
      omega (arith, at.0),
      n.1,
      n.2,
      λ p h l. ⊎_elim (λ (b : p < i * 64). c.loop-i.invariant p h (omega (arith, at.0))) (λ (b : i * 64 ≤ p). n.3 p b l) (cases_lt p (i * 64)),
    )

pub returns : goal.returns
returns c =
    let self = c.args.self.now in
    let start = c.args.from / 64 + 1 in
    let road = later_road self.words start c.into_iter-i-iterator.result (search rules) (search rules) (search rules) in
    let end = YieldsList-end road c.loop-i.yielded _ c.loop-i.yielded_by _ _ c.in-None.is c.next.ensures.steps in
    let count = later_count self.words start in
    λ p h l. c.loop-i.invariant p h (omega (arith, self.whole, count, end.1))
