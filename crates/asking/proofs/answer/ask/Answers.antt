use Rattle.std.proofs.Common.{length, get_or, ap, ◌∙◌, arith}
use Rattle.descent.specs.Lines.{stands}
use Rattle.descent.proofs.Proper.{standing_fits}
use Rattle.words.specs.declared.word.WordKind.TheVariants.{AnswerHead}
use Rattle.words.specs.Words.{word_of}
use Rattle.catalogue.specs.Ledger.{answering}
use Rattle.catalogue.specs.View.{view}
use Rattle.asking.specs.Decoding.{decoded}
use Rattle.asking.proofs.Refused.{ask_ready}
use Rattle.asking.proofs.Asked.{asked_set, asked_names, answer_written, answer_past}
use Rattle.asking.proofs.answer.ask.Goals as goal

pub returns-clause-list : goal.returns-clause-list
returns-clause-list g c belongs =
    let s = g.C.Truth.sort in
    let a = c.args in
    let cat = a.catalogue.now in
    let ready = ask_ready (view cat).book (length a.table.now) (length a.answer.now) (length a.working.now) c.in_ok-check_ask.ensures in
    let shows = c.standing-standing.ensures in
    let kinds = c.standing-standing.result.kinds.now in
    let row = c.index-working-0.result in
    answer_written (decoded s kinds a.table.now row) a.answer.now c.decode.new.answer (answering (view cat).book a.words.now) c.decode.result
    (asked_names s cat a.table.now belongs ready.1 a.words.now kinds row shows.serials shows.places
    (asked_set s cat a.table.now belongs ready.1 a.words.now c.all_kinds.result row
    (λ p h. c.all_kinds.ensures p h ∙ ap (stands p) shows.places) (λ p h. ap (λ r. s.reads r p) c.index-working-0.is ∙ c.in_ok-evaluate.ensures.value row p h)))
    c.decode.ensures.count c.decode.ensures.list

pub returns-clause-set : goal.returns-clause-set
returns-clause-set g c belongs d =
    let s = g.C.Truth.sort in
    let a = c.args in
    let ready = ask_ready (view a.catalogue.now).book (length a.table.now) (length a.answer.now) (length a.working.now) c.in_ok-check_ask.ensures in
    asked_set s a.catalogue.now a.table.now belongs ready.1 a.words.now c.all_kinds.result (get_or c.evaluate.new.slots 0 d)
    (λ p h. c.all_kinds.ensures p h ∙ ap (stands p) c.standing-standing.ensures.places) (c.in_ok-evaluate.ensures.value d)

pub returns-clause-kept : goal.returns-clause-kept
returns-clause-kept g c =
    let a = c.args in
    let ready = ask_ready (view a.catalogue.now).book (length a.table.now) (length a.answer.now) (length a.working.now) c.in_ok-check_ask.ensures in
    let names = decoded g.C.Truth.sort c.standing-standing.result.kinds.now a.table.now c.index-working-0.result in (
      omega (arith, c.decode.ensures.within, standing_fits c.standing-standing.result, c.standing-standing.ensures.width, ready.0, c.decode.auto.answer),
      answer_past names a.answer.now c.decode.new.answer c.decode.result (word_of AnswerHead (length names)) c.decode.ensures.count c.decode.ensures.list,
    )
