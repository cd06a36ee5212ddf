use Rattle.std.proofs.Common.{◌≡◌, ℕ, ◌+◌, ◌≤◌, Bool, not, List, ◌∷◌, ◌++◌, length, drop, set, sym, ap, ◌∙◌, ap₂, add-one, arith}
use mathlib.Core.Path.{fun_ext}
use lib.Seq.{paste}
use Rattle.words.specs.declared.word.WordKind.TheVariants.{AnswerHead}
use Rattle.words.specs.Words.{low_bits, word_of}
use Rattle.closing.specs.Tables.{sets_of}
use Rattle.descent.specs.Lines.{places_of}
use Rattle.asking.specs.Decoding.{chosen, names_of, decoded}
use Rattle.descent.proofs.Proper.{standing_fits}
use Rattle.asking.proofs.Covering.{chosen_alike}
use Rattle.asking.proofs.Written.{headed}
use Rattle.asking.proofs.decode.decode.Goals as goal

pub overflow_cast-count : goal.overflow_cast-count
overflow_cast-count g c = let st = c.args.standing.now in omega (arith, c.write_names-count.ensures.few, standing_fits st, st.wide)

pub returns : goal.returns
returns g c =
    let s = g.C.Truth.sort in
    let kinds = c.args.standing.now.kinds.now in
    let table = c.args.table.now in
    let old = c.args.answer.now in
    let n = c.write_names-count.result in
    let out = s.means c.complement.new.self in
    let outside : ℕ → Bool = λ p. not (s.reads c.args.set p) in
    let right : names_of (chosen s.width (sets_of s table) out (s.means c.lying_below-below.result)) kinds ≡ decoded s kinds table c.args.set =
    ap (λ test. names_of test kinds)
    (fun_ext (chosen_alike s.width (sets_of s table) out outside (s.means c.lying_below-below.result) (places_of kinds)
    (λ p h. c.complement.ensures p h ∙ ap not (c.read-outside.ensures.set p h)) c.lying_below-below.ensures)) in
    let names = decoded s kinds table c.args.set in
    let many : n ≡ length names = c.write_names-count.ensures.count ∙ ap length right in
    let st = c.args.standing.now in
    let low : low_bits n ≡ n = omega (arith, c.write_names-count.ensures.few, standing_fits st, st.wide) in
    let fits : 1 ≤ length old = omega (arith, c.requires.room) in
    record {
      count = ap (λ m. m + 1) many;
      list =
          ap₂ (λ (ys : List ℕ) (y : ℕ). set ys 0 y) (c.write_names-count.ensures.list ∙ ap (λ us. paste old 1 us n) right) (c.make_word.ensures ∙ ap (word_of AnswerHead) (low ∙ many))
          ∙ headed old names n (word_of AnswerHead (length names)) many fits
          ∙ ap (λ (m : ℕ). word_of AnswerHead (length names) ∷ names ++ drop m old) (sym (add-one n));
      within = omega (arith, c.write_names-count.ensures.few);
    }
