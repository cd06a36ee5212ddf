use Rattle.std.proofs.Common.{◌<◌, get_or, arith}
use Rattle.words.proofs.Bytes.{bytes_of_more}
use Rattle.words.proofs.files.encode.Goals as goal

pub loop-word-preserved : goal.loop-word-preserved
loop-word-preserved c =
    let fits : get_or c.args.words.now c.loop-word.word-index 0 < 4294967296 = omega (arith, c.type_inv.words c.loop-word.word-index) in
    let more = bytes_of_more c.args.words.now c.loop-word.word-index c.loop-word-test.true fits in
    let appended = c.in_ok-extend_from_slice.ensures.items in
    let four = c.to_be_bytes.ensures in
    cc
