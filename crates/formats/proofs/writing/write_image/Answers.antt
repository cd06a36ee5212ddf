use Rattle.std.proofs.Common.{◌≡◌, ◌≤◌, [], ◌∷◌, length, sym, refl, ap, ◌∙◌, arith}
use Rattle.std.proofs.lemmas.List.{length-map, length-append}
use Rattle.std.proofs.lemmas.Bool.{ltb-false}
use Rattle.descent.specs.declared.standing.Standing.{Standing}
use Rattle.descent.specs.Lines.{serials_of}
use Rattle.descent.proofs.Proper.{standing_fits, lent-held}
use Rattle.formats.proofs.ImageLaws.{reads_back, tells_apart}
use Rattle.formats.proofs.ImageWriting.{length-image, image_written}
use Rattle.formats.specs.Formats.{image_body}
use Rattle.words.specs.declared.word.WordKind.TheVariants.{ImageHead, ImageEnd}
use Rattle.words.specs.Words.{word_of}
use Rattle.words.proofs.Parts.{low_same}
use Rattle.words.proofs.Chain.{not-refused}
use Rattle.formats.proofs.writing.write_image.Goals as goal

-- what stands is few enough that every count fits a word
few : (s : Standing) → (length s.kinds.now ≤ 512) × (length s.kinds.now ≡ length (serials_of s.kinds.now))
few s = (omega (arith, standing_fits s, s.wide.1), sym (length-map s.kinds.now (λ k. k.serial)))

pub returns-in_err-need-clause-back : goal.returns-in_err-need-clause-back
returns-in_err-need-clause-back c = let s = c.args.source.now in reads_back s.standing.width _ _ (lent-held s.standing s.few)

pub returns-in_err-need-clause-alone : goal.returns-in_err-need-clause-alone
returns-in_err-need-clause-alone c = let s = c.args.source.now in tells_apart s.standing.width _ _ (lent-held s.standing s.few)

pub overflow_cast-names : goal.overflow_cast-names
overflow_cast-names c = omega (arith, (few c.args.source.now.standing).0)

pub overflow_cast-end : goal.overflow_cast-end
overflow_cast-end c = let s = c.args.source.now.standing in omega (arith, few s, c.args.source.now.few)

pub returns-clause-list : goal.returns-clause-list
returns-clause-list c =
    let s = c.args.source.now.standing in
    let kinds = serials_of s.kinds.now in
    let lines = s.lines.now in
    let k = few s in
    let room = ltb-false _ _ (not-refused _ _ c.in_ok-need.ensures) in (
      omega (arith, k.1, length-image kinds lines, length-append (image_body kinds lines) (word_of ImageEnd (length (image_body kinds lines)) ∷ [])),
      image_written kinds lines c.args.image.now c.write_names.new.names c.write_lines.new.words (length s.kinds.now) (length lines) c.make_word.result c.make_word-2.result k.1 refl (omega (arith, room))
          (c.make_word.ensures ∙ ap (word_of ImageHead) (low_same _ (omega (arith, k.0))))
          (c.make_word-2.ensures ∙ ap (word_of ImageEnd) (low_same _ (omega (arith, k.0, c.args.source.now.few))))
          c.write_names.ensures c.write_lines.ensures,
    )

pub returns-clause-back : goal.returns-clause-back
returns-clause-back c = let s = c.args.source.now in reads_back s.standing.width _ _ (lent-held s.standing s.few)

pub returns-clause-alone : goal.returns-clause-alone
returns-clause-alone c = let s = c.args.source.now in tells_apart s.standing.width _ _ (lent-held s.standing s.few)
