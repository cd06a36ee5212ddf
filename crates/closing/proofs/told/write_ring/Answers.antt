use Rattle.std.proofs.Common.{◌≡◌, ℕ, ◌+◌, ◌<◌, [], ◌∷◌, ◌++◌, map, length, get_or, take, drop, set, sym, ap, ◌∙◌, arith}
use Rattle.std.proofs.lemmas.List.{length-set, length-map, length-take-le, map_more}
use Rattle.words.specs.Words.{word_of, low_bits}
use Rattle.words.specs.declared.word.WordKind.TheVariants.{RingHead, Name}
use Rattle.closing.specs.Direct.{serial_at}
use Rattle.closing.proofs.Ringing.{write_more, low_bits_same, serial_at_low}
use Rattle.closing.proofs.told.write_ring.Goals as goal

pub loop-i-preserved : goal.loop-i-preserved
loop-i-preserved c =
    let st = c.args.standing.now in
    let places = c.args.places.now in
    let ring = set c.args.ring.now 0 c.make_word.result in
    let i = c.loop-i.i in
    let f : ℕ → ℕ = λ p. word_of Name (serial_at st.kinds.now p) in
    let xs = word_of RingHead (length places) ∷ map f (take i places) in
    let word = c.make_word-in-loop-i.result in
    let inside : i < length places = c.loop-i-test.true in
    let p = get_or places i 0 in
    let e : word ≡ f p =
    c.make_word-in-loop-i.ensures
    ∙ ap (λ s. word_of Name (low_bits s)) c.serial_at.ensures
    ∙ ap (word_of Name) (low_bits_same (serial_at st.kinds.now p) (serial_at_low st p)) in
    let size : length xs ≡ i + 1 =
    let a = length-map (take i places) f in let b = length-take-le i places (omega arith) in omega arith in
    let room : i + 1 < length ring = simp length-set (omega arith) in
    ap (λ ys. set ys (i + 1) word) c.loop-i.invariant
    ∙ write_more xs ring (i + 1) word size room
    ∙ ap (λ w. (xs ++ w ∷ []) ++ drop ((i + 1) + 1) ring) e
    ∙ ap (λ ys. (word_of RingHead (length places) ∷ ys) ++ drop ((i + 1) + 1) ring) (sym (map_more f places i 0 inside))
