use Rattle.std.proofs.Common.{◌*◌, ◌^◌, ◌∙◌, arith}
use Rattle.descent.specs.Lines.{serials_of}
use Rattle.descent.proofs.Rows.{children_below, parents_below}
use Rattle.formats.proofs.ImageWriting.{length_lines, line_written, paste_whole}
use Rattle.formats.proofs.writing.write_lines.Goals as goal

pub loop-i-preserved : goal.loop-i-preserved
loop-i-preserved c =
    let s = c.args.standing.now in
    line_written s.lines.now c.args.words.now c.loop-i.words c.loop-i.i c.make_word.result c.make_word-in-loop-i.result _
    (children_below (2 ^ 28) (serials_of s.kinds.now) s.serials s.lines.now s.joins) (parents_below (2 ^ 28) (serials_of s.kinds.now) s.serials s.lines.now s.joins)
    c.loop-i-test.true c.requires c.make_word.ensures c.make_word-in-loop-i.ensures c.loop-i.invariant

pub returns : goal.returns
returns c =
    c.loop-i.invariant ∙ paste_whole c.args.words.now _ (2 * c.loop-i.i) (omega (arith, c.requires, c.loop-i-test.false, c.loop-i.auto.i-end)) (omega (arith, c.requires, length_lines c.args.standing.now.lines.now))
