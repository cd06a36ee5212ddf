-- Filling a catalogue, kind by kind and line by line.
use Rattle.std.proofs.Common.{◌≡◌, ℕ, ◌+◌, ◌<◌, ◌≤◌, true, List, [], ◌∷◌, ◌++◌, map, length, get_or, take, drop, sym, ap, ◌∙◌, ap₂, arith}
use Rattle.std.specs.List.{insert}
use Rattle.std.proofs.Math.Seq.{take-append_seam}
use Rattle.std.proofs.lemmas.List.{append_assoc, length-map, length-take-le, map_push, map_more, take-map, take_all, drop_all}
use Rattle.descent.specs.declared.line.Line.{Line}
use Rattle.descent.specs.Order.{rising_from, line_key}
use Rattle.descent.proofs.Rising.{rising-take}
use Rattle.words.specs.Words.{low_bits}
use Rattle.formats.specs.Formats.{serials_in, pairs_in}
use Rattle.formats.proofs.ImageChecks.{pairs_more}

-- one more name, and its serial behind the others
module _ (names us : List ℕ) (i x : ℕ) (l : i < length names) (e : us ≡ serials_in (take i names)) (is : x ≡ low_bits (get_or names i 0)) where
  named_count : length us ≡ i
  named_count = ap length e ∙ length-map (take i names) low_bits ∙ length-take-le i names (omega arith)

  named_next : insert us i x ≡ serials_in (take (i + 1) names)
  named_next =
      let long = named_count in
      ap₂ (λ (vs ws : List ℕ). vs ++ x ∷ ws) (take_all i us (omega arith)) (drop_all i us (omega arith))
      ∙ ap₂ (λ (vs : List ℕ) (y : ℕ). vs ++ y ∷ []) e is ∙ sym (map_more low_bits names i 0 l)

  pub named_rising : rising_from 0 (serials_in names) ≡ true → rising_from 0 (insert us i x) ≡ true
  named_rising r = ap (rising_from 0) (named_next ∙ sym (take-map low_bits (i + 1) names)) ∙ rising-take 0 (i + 1) (serials_in names) r

-- two more words, and their line behind the others
pub line_pushed : (lines : List Line) (c p : ℕ) (left rest : List ℕ) → 2 ≤ length left → c ≡ low_bits (get_or left 0 0) → p ≡ low_bits (get_or left 1 0) → rest ≡ drop 2 left
    → (lines ++ record { child = c; parent = p } ∷ []) ++ pairs_in rest ≡ lines ++ pairs_in left
line_pushed lines c p left rest l ec ep er =
    let made : ℕ → ℕ → Line = λ x y. record { child = x; parent = y } in
    ap (λ (vs : List ℕ). (lines ++ made c p ∷ []) ++ pairs_in vs) er ∙ append_assoc lines (made c p ∷ []) (pairs_in (drop 2 left))
    ∙ ap₂ (λ (x y : ℕ). lines ++ made x y ∷ pairs_in (drop 2 left)) ec ep ∙ ap (λ (us : List Line). lines ++ us) (sym (pairs_more left l))

-- lines that rise still do where more follow
pub rising_front : (lines more all : List Line) (x : Line) → (lines ++ x ∷ []) ++ more ≡ all → rising_from 0 (map line_key all) ≡ true → rising_from 0 (map line_key lines ++ line_key x ∷ []) ≡ true
rising_front lines more all x e r =
    let front = lines ++ x ∷ [] in
    ap (rising_from 0)
    (sym (map_push line_key lines x) ∙ ap (map line_key) (sym (take-append_seam front more) ∙ ap (take (length front)) e) ∙ sym (take-map line_key (length front) all))
    ∙ rising-take 0 (length front) (map line_key all) r
