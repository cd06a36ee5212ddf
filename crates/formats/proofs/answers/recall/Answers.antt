use Rattle.std.proofs.Common.{◌≡◌, ℕ, ◌-◌, ◌^◌, ◌<◌, List, ◌++◌, map, length, take, drop, sym, refl, ap, ◌∙◌, ap₂, arith}
use Rattle.std.proofs.lemmas.List.{length-map}
use Rattle.std.proofs.lemmas.Bool.{ltb-false}
use Rattle.descent.specs.Lines.{serials_of}
use Rattle.words.specs.declared.word.WordKind.TheVariants.{Name, AnswerHead}
use Rattle.words.specs.Words.{word_of}
use Rattle.words.proofs.Parts.{low_same}
use Rattle.words.proofs.Chain.{not-refused}
use Rattle.formats.specs.Formats.{serials_in, named_in, still_among}
use Rattle.formats.proofs.Keeping.{kept_fit_all, head_first}
use Rattle.formats.proofs.answers.recall.Goals as goal

pub overflow_cast-count : goal.overflow_cast-count
overflow_cast-count c =
    let s = c.args.standing.now in
    let names = c.in_ok-names.names in
    omega (arith, c.write_standing-count.ensures.count, kept_fit_all s names.words.now names.rising, s.wide.1)

pub returns-clause-list : goal.returns-clause-list
returns-clause-list c =
    let s = c.args.standing.now in
    let names = c.in_ok-names.names in
    let kept = still_among (serials_of s.kinds.now) (named_in c.args.words.now) in
    let written = c.write_standing-count.ensures in
    let is : still_among (serials_of s.kinds.now) (serials_in names.words.now) ≡ kept = rw c.in_ok-names.ensures.names refl in
    let many : c.write_standing-count.result ≡ length kept = written.count ∙ ap length is in
    let long = length-map kept (word_of Name) in
    let few : length kept < 2 ^ 28 = omega (arith, many, written.count, kept_fit_all s names.words.now names.rising, s.wide.1) in
    let room = ltb-false _ _ (not-refused _ _ c.in_ok-need.ensures) in
    let old = c.args.answer.now in
    let list = written.list ∙ ap₂ (λ (us : List ℕ) (n : ℕ). map (word_of Name) us ++ drop n (take (length old - 1) (drop 1 old))) is (many ∙ sym long) in
    let head = c.make_word.ensures ∙ ap (word_of AnswerHead) (low_same c.write_standing-count.result (omega arith) ∙ many) in
    (omega (arith, many, long), rw head (head_first old (map (word_of Name) kept) c.write_standing-count.new.list (word_of AnswerHead (length kept)) (omega (arith, room)) list))
