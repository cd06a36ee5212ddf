use Rattle.std.proofs.Common.{◌∙◌, arith}
use Rattle.std.proofs.lemmas.List.{length-map}
use Rattle.descent.specs.Lines.{serials_of}
use Rattle.words.specs.declared.word.WordKind.TheVariants.{Name}
use Rattle.words.specs.Words.{word_of}
use Rattle.formats.proofs.ImageWriting.{name_written, paste_whole}
use Rattle.formats.proofs.writing.write_names.Goals as goal

pub loop-i-preserved : goal.loop-i-preserved
loop-i-preserved c =
    let s = c.args.standing.now in
    name_written s.kinds.now c.args.names.now c.loop-i.names c.loop-i.i c.make_word.result _ s.serials c.loop-i-test.true c.requires c.make_word.ensures c.loop-i.invariant

pub returns : goal.returns
returns c =
    let ks = c.args.standing.now.kinds.now in
    c.loop-i.invariant ∙ paste_whole c.args.names.now _ c.loop-i.i (omega (arith, c.requires, c.loop-i-test.false, c.loop-i.auto.i-end)) (omega (arith, c.requires, length-map (serials_of ks) (word_of Name), length-map ks (λ k. k.serial)))
