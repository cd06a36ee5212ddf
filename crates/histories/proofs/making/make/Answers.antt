use Rattle.std.proofs.Common.{◌≡◌, ℕ, Bool, List, length, refl, ap}
use Rattle.std.proofs.lemmas.Result.{IfOk-weaker}
use Rattle.words.specs.Refusals.{question_told, closing_told}
use Rattle.formats.specs.Formats.{answer_of}
use Rattle.catalogue.specs.Ledger as ledger
use Rattle.catalogue.specs.Ledger.{answering}
use Rattle.catalogue.specs.View.{view}
use Rattle.histories.specs.declared.reply.Reply.TheVariants.{Words, Verdict}
use Rattle.histories.specs.Calls.{rooms}
use Rattle.histories.specs.Sayings.{verdict}
use Rattle.histories.proofs.Prefixes.{start_belongs}
use Rattle.histories.proofs.Sayings.{words_given, table_long}
use Rattle.histories.proofs.Closings.{closing_keeps}
use Rattle.histories.proofs.RingLists.{closing_left}
use Rattle.histories.proofs.Holding.{answered_same, answered_moved, at_call}
use Rattle.histories.proofs.making.make.Goals as goal

close_is : {t t' m m' k k' n n' : ℕ} → t ≡ t' → m ≡ m' → k ≡ k' → n ≡ n' → ledger.close t' m' k' n' ≡ ledger.close t m k n
close_is a b c d = cc

ask_is : (ws : List ℕ) {t t' k k' n n' : ℕ} → t ≡ t' → k ≡ k' → n ≡ n' → ledger.ask ws t' k' n' ≡ ledger.ask ws t k n
ask_is ws a b c = cc

fit_is : (x : ℕ) (ws : List ℕ) {t t' k k' : ℕ} → t ≡ t' → k ≡ k' → ledger.fit x ws t' k' ≡ ledger.fit x ws t k
fit_is x ws a b = cc

pub returns-in-Close-clause-answered : goal.returns-in-Close-clause-answered
returns-in-Close-clause-answered g c =
    let sort = g.C.Truth.sort in
    let old = c.args.catalogue.now in
    let rows = c.handed-in-Close in
    at_call sort (rooms c.args.lists.now) rows.ensures.whole c.in-Close.is
    (close_is rows.ensures.count c.handed-in-Close-2.ensures.count c.handed-in-Close-3.ensures.count c.handed-in-Close-4.ensures.count)
    (λ l h. answered_moved closing_told _ _ _ _ (λ _. refl) (c.close_over.ensures.moved h.belongs.wide) c.told-in-Close.ensures
    (closing_keeps sort old c.close_over.new.catalogue rows.result.0.now c.close_over.new.table rows.result.1.now _ _ _ _ _ _ c.close_over.result
    c.close_over.auto.table c.close_over.ensures.moved c.close_over.ensures.lists c.close_over.ensures.belongs) l h)

pub returns-in-Close-clause-ring : goal.returns-in-Close-clause-ring
returns-in-Close-clause-ring g c =
    let ring = c.handed-in-Close-4 in
    closing_left g.C.Truth.sort _ _ _ _ _ _ ring.result.1.now c.args.lists.now.ring.now c.close_over.result c.told-in-Close.result
    c.close_over.auto.ring ring.ensures.whole c.told-in-Close.ensures c.close_over.ensures.lists

pub returns-in-Ask-clause-answered : goal.returns-in-Ask-clause-answered
returns-in-Ask-clause-answered g c =
    let sort = g.C.Truth.sort in
    let old = c.args.catalogue.now in
    let question = c.in-Ask.question.now in
    let rows = c.handed-start in
    let values = c.handed-in-Ask in
    let answer = c.handed-in-Ask-2 in
    at_call sort (rooms c.args.lists.now) rows.ensures.whole c.in-Ask.is
    (ask_is question rows.ensures.count values.ensures.count answer.ensures.count)
    (answered_same question_told (λ n. Words n)
    (ledger.ask question (length rows.result.0.now) (length values.result.0.now) (length answer.result.0.now)) (view old) _ _ _
    (λ _. refl) c.told-in-Ask.ensures c.ask.ensures.says
    (λ none b. words_given c.ask.result (answer_of (answering (view old).book question))
    answer.result.0.now c.ask.new.answer answer.result.1.now _ refl
    (c.ask.ensures.list (start_belongs old sort rows.result.0.now rows.result.1.now (table_long (length rows.result.0.now) (view old).book.wide _ none) b))))

pub returns-in-Fit-clause-answered : goal.returns-in-Fit-clause-answered
returns-in-Fit-clause-answered g c =
    let sort = g.C.Truth.sort in
    let old = c.args.catalogue.now in
    let serial = c.in-Fit.serial in
    let question = c.in-Fit.question.now in
    let rows = c.handed-start-in-Fit in
    let values = c.handed-in-Fit in
    at_call sort (rooms c.args.lists.now) rows.ensures.whole c.in-Fit.is
    (fit_is serial question rows.ensures.count values.ensures.count)
    (answered_same question_told (λ x. Verdict x)
    (ledger.fit serial question (length rows.result.0.now) (length values.result.0.now)) (view old) _ _ _
    (λ _. refl) c.told-in-Fit.ensures c.fit.ensures.says
    (λ none b. IfOk-weaker c.fit.result _ _ (λ x e. ap (λ (y : Bool). verdict y) e)
    (c.fit.ensures.value (start_belongs old sort rows.result.0.now rows.result.1.now (table_long (length rows.result.0.now) (view old).book.wide _ none) b))))
