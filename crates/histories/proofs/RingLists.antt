-- A ring that closing tells in the start of a list is told in the whole of it.
use Rattle.std.proofs.Common.{◌≡◌, ℕ, ◌+◌, ◌≤◌, List, ◌∷◌, ◌++◌, map, length, drop, Ok, Err, Result, sym, refl, ap, ◌∙◌, subst, append_assoc, arith, length-append, length-drop}
use Rattle.std.proofs.lemmas.List.{drop-append-le, length-map}
use Rattle.words.specs.declared.refusal.Refusal.{Refusal}
use Rattle.words.specs.declared.refusal.ListFault.TheVariants.{Short}
use Rattle.words.specs.declared.refusal.ClosingFault.{ClosingFault}
use Rattle.words.specs.declared.refusal.ClosingFault.TheVariants as fault
use Rattle.words.specs.declared.word.WordKind.TheVariants.{RingHead, Name}
use Rattle.words.specs.Words.{word_of}
use Rattle.words.specs.Refusals.{closing_told}
use Rattle.codes.specs.Sorts.{Sort}
use Rattle.descent.specs.declared.line.Line.{Line}
use Rattle.closing.specs.Closing.{Lent, Closes, Told}
use Rattle.histories.specs.declared.reply.Reply.{Reply}
use Rattle.histories.specs.declared.reply.Reply.TheVariants.{Done}
use Rattle.histories.specs.RingLists.{RingLeft}
use Rattle.histories.proofs.Sayings.{Tells}

-- the words of a ring that is told
ring_words : List ℕ → List ℕ
ring_words kinds = word_of RingHead (length kinds) ∷ map (word_of Name) kinds

ring_words_count : (kinds : List ℕ) → length (ring_words kinds) ≡ length kinds + 1
unfolding ring_words
ring_words_count kinds = omega (arith, length-map kinds (word_of Name))

told_whole : (ls : List Line) (old new more : List ℕ) → length new ≡ length old → Told ls old new → Told ls (old ++ more) (new ++ more)
unfolding ring_words
told_whole ls old new more long t =
    let n = length t.kinds + 1 in
    let words = ring_words t.kinds in
    let all = ap length t.words ∙ length-append words (drop n old) in
    let room : n ≤ length old = omega (arith, all, length-drop n old, ring_words_count t.kinds, long) in
    record {
      kinds = t.kinds;
      ring = t.ring;
      words =
          ap (λ (xs : List ℕ). xs ++ more) t.words ∙ append_assoc words (drop n old) more
          ∙ ap (λ (xs : List ℕ). words ++ xs) (sym (drop-append-le n old more room));
    }

-- a closing that is handed the start of the list
pub closing_left : {S R : Type 0} (sort : Sort S R) (w : ℕ) (ks ps : List ℕ) (ls : List Line) (old new : Lent R) (more whole : List ℕ)
    (r : Result (Unit {0}) ClosingFault) (s : Result (Reply ℕ) Refusal)
    → length new.ring ≡ length old.ring → whole ≡ old.ring ++ more → Tells closing_told (λ _. Done) r s
    → Closes sort w ks ps ls old new r → RingLeft ls whole (new.ring ++ more) s
closing_left sort w ks ps ls old new more whole (Ok x) (Ok y) long is tells left =
    ap (λ (xs : List ℕ). xs ++ more) left.untold ∙ sym is
closing_left sort w ks ps ls old new more whole (Ok x) (Err f) long is tells left = absurd tells
closing_left {R = R} sort w ks ps ls old new more whole (Err (fault.List Short)) s long is tells left =
    subst (λ (t : Result (Reply ℕ) Refusal). RingLeft ls whole (new.ring ++ more) t) (sym tells)
    (ap (λ (l : Lent R). l.ring ++ more) left ∙ sym is)
closing_left sort w ks ps ls old new more whole (Err fault.Ring) s long is tells left =
    subst (λ (t : Result (Reply ℕ) Refusal). RingLeft ls whole (new.ring ++ more) t) (sym tells)
    (refl, subst (λ (xs : List ℕ). Told ls xs (new.ring ++ more)) (sym is) (told_whole ls old.ring new.ring more long left.told))
