use Rattle.std.proofs.Common.{◌≡◌, ◌+◌, map, length, take, sym, ap, ◌∙◌, rules, arith}
use Rattle.std.proofs.lemmas.List.{length-map, length_push, map_push, take_all}
use Rattle.descent.specs.Lines.{serials_of}
use Rattle.words.specs.declared.word.WordKind.TheVariants.{Name}
use Rattle.words.specs.Words.{low_bits, word_of}
use Rattle.formats.specs.Formats.{serials_in, still_among}
use Rattle.formats.specs.Writing.{Writes}
use Rattle.formats.proofs.Keeping.{kept_more, kept_same, kept_fit}
use Rattle.formats.proofs.WriterLaws.{from_start, depth_held, writes_more, writes_all}
use Rattle.formats.proofs.answers.write_standing.Goals as goal
use Rattle.formats.proofs.answers.write_standing.Goals.{then-is_standing, else-is_standing}

pub put-requires : goal.put-requires
put-requires c =
    let s = c.args.standing.now in
    let l = c.loop-word in
    let ks = serials_of s.kinds.now in
    let names = c.args.names.words.now in
    let before = still_among ks (serials_in (take l.word-index names)) in
    let one = kept_more ks names l.word-index c.low_bits-serial.result c.loop-word-test.true c.low_bits-serial.ensures (sym c.if-is_standing.ensures) in
    omega (
      arith,
      kept_fit s names (l.word-index + 1) c.args.names.rising,
      ap length one,
      length_push before c.low_bits-serial.result,
      length-map before (word_of Name),
      l.invariant.0,
      (from_start c.new-kept.result c.new-kept.ensures.empty),
      ap length c.new-kept.ensures.same,
      c.requires,
    )

pub loop-word-preserved : goal.loop-word-preserved
loop-word-preserved c =
    let l = c.loop-word in
    let ks = serials_of c.args.standing.now.kinds.now in
    let names = c.args.names.words.now in
    let serial = c.low_bits-serial.result in
    let low : low_bits serial ≡ serial = omega (arith, c.low_bits-serial.ensures) in
    elim c.if-is_standing.branch [
      | then-is_standing w ↦
          (let one = kept_more ks names l.word-index serial c.loop-word-test.true c.low_bits-serial.ensures (sym w.if-is_standing.ensures) in
          rw w.kept-is (
            writes_more _ _ _ _ _ _ l.invariant.0 w.put.ensures.writes (rw (one, low) (map_push (word_of Name) (still_among ks (serials_in (take l.word-index names))) serial)),
            w.put.ensures.lender ∙ l.invariant.1,
          ))
      | else-is_standing w ↦
          (let same = kept_same ks names l.word-index serial c.loop-word-test.true c.low_bits-serial.ensures (sym w.if-is_standing.ensures) in
          rw (w.kept-is, same) l.invariant)
    ]

pub returns-clause-list : goal.returns-clause-list
returns-clause-list c =
    let l = c.loop-word in
    let names = c.args.names.words.now in
    let kept = still_among (serials_of c.args.standing.now.kinds.now) (serials_in names) in
    let written : Writes c.new-kept.result l.kept (map (word_of Name) kept) = rw (← take_all l.word-index names c.loop-word-test.false) l.invariant.0 in
    let all = writes_all _ l.kept _ _ _ (from_start c.new-kept.result c.new-kept.ensures.empty) c.new-kept.ensures.same written (search rules) in
    rw (c.depth.ensures, depth_held l.kept, all.0) all.1
