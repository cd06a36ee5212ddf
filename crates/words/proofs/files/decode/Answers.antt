use Rattle.std.proofs.Common.{◌≡◌, ◌/◌, ◌*◌, ◌<◌, ◌≤◌, length, vec_items, sym, ◌∙◌, arith, rules}
use Rattle.std.proofs.lemmas.List.{take_all}
use Rattle.std.specs.Simd.{first_chunks}
use Rattle.words.proofs.Bytes.{decode_more, same_from_bytes_of}
use Rattle.words.proofs.files.decode.Goals as goal

pub loop-chunk-preserved : goal.loop-chunk-preserved
loop-chunk-preserved c =
    let bytes = c.args.bytes.now in
    let within : c.loop-chunk.chunk-index < length bytes / 4 = omega (arith, c.loop-chunk-test.true, c.as_chunks.ensures.front_len) in
    let more = decode_more (vec_items c.loop-chunk.words) bytes c.loop-chunk.chunk-index (λ k. omega (arith, c.type_inv.bytes k)) within c.loop-chunk.invariant in
    let pushed = c.in_ok-push.ensures.items in
    let word = c.from_be_bytes.ensures in
    let front : c.as_chunks.result.0.now ≡ first_chunks 4 (length bytes / 4) bytes = c.as_chunks.ensures.front in
    rw (pushed, word, front) more

pub returns : goal.returns
returns c =
    let whole : length c.args.bytes.now ≤ c.loop-chunk.chunk-index * 4 = search rules in
    let back = c.loop-chunk.invariant ∙ take_all (c.loop-chunk.chunk-index * 4) c.args.bytes.now whole in
    record { back = back; only = λ others e. same_from_bytes_of _ others (back ∙ sym e) }
