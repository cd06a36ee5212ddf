-- The image of kinds and lines that a catalogue can hold is accepted, and reads back as the same.
use Rattle.std.proofs.Common.{◌≡◌, ℕ, suc, ◌+◌, ◌*◌, ◌^◌, ◌<◌, ◌≤◌, true, false, not, ◌&&◌, eqb, ltb, leb, List, [], ◌∷◌, ◌++◌, map, length, take, drop, None, sym, refl, ap, ◌∙◌, ap₂, arith}
use Rattle.std.specs.List.{flat_map}
use Rattle.std.proofs.lemmas.List.{append_assoc, length-map, take_at, drop_at}
use Rattle.std.proofs.lemmas.Bool.{and_parts, ltb-true, le-ltb, lt-leb, eq-eqb, ne_eqb, not_from_true, not-true, cond-true, cond-false}
use Rattle.descent.specs.declared.line.Line.{Line}
use Rattle.descent.specs.Lines.{stands}
use Rattle.descent.specs.Order.{rising_from, line_key}
use Rattle.descent.specs.Proper.{CanHold, below, joins, joining}
use Rattle.descent.proofs.Rising.{stands_above}
use Rattle.descent.proofs.Rows.{stands-below}
use Rattle.words.specs.declared.refusal.Refusal.{Refusal}
use Rattle.words.specs.declared.refusal.Part.TheVariants as part
use Rattle.words.specs.declared.word.WordKind.TheVariants.{Name, ImageHead, Child, Parent, ImageEnd}
use Rattle.words.specs.Words.{kind_number, low_bits, is_kind, word_of}
use Rattle.words.specs.Refusals.{refusal, refuse_if, serial_refusal}
use Rattle.formats.specs.Formats.{not_due, name_refusal, names_refusal, named_refusal, child_refusal, parent_refusal, end_refusal, lines_refusal, serials_in, line_in, line_words, pairs_in, kinds_in, lines_in, image_body}
use Rattle.formats.specs.Images.{ReadsBack, TellsApart}
use Rattle.words.proofs.Parts.{kind_of, low_of, kind_passes}
use Rattle.words.proofs.Chain.{passes, all_passed, unrefused, serial_passes}
use Rattle.formats.proofs.ImageWriting.{length-image}

-- a child word is no end
child_goes_on : (x : ℕ) → x < 2 ^ 28 → is_kind ImageEnd (word_of Child x) ≡ false
child_goes_on x l = ne_eqb (kind_number (word_of Child x)) 15 (λ e. omega arith)

-- names of rising kinds
pub names_pass : (due : ℕ → Refusal) (ks : List ℕ) (last i : ℕ) (rest : List ℕ) → rising_from last ks ≡ true → below (2 ^ 28) ks ≡ true → names_refusal due (length ks) last i (map (word_of Name) ks ++ rest) ≡ None
names_pass due [] last i rest r b = refl
names_pass due (k ∷ ks) last i rest r b =
    let p = and_parts (ltb last k) (rising_from k ks) r in
    let q = and_parts (ltb k (2 ^ 28)) (below (2 ^ 28) ks) b in
    let up = ltb-true last k p.0 in
    let small = ltb-true k (2 ^ 28) q.0 in
    let w : ℕ = word_of Name k in
    let low : low_bits w ≡ k = low_of Name k small in
    let name = all_passed (refuse_if (not (is_kind Name w)) (due i) ∷ serial_refusal (low_bits w) i ∷ refuse_if (leb (low_bits w) last) (due i) ∷ [])
    (kind_passes Name k (due i) small, (rw low (serial_passes k i (omega arith) small), (unrefused (leb (low_bits w) last) (due i) (lt-leb (low_bits w) last (omega arith)), tt))) in
    all_passed (name_refusal due last i w ∷ names_refusal due (length ks) (low_bits w) (i + 1) (map (word_of Name) ks ++ rest) ∷ []) (name, (rw low (names_pass due ks k (i + 1) rest p.1 q.1), tt))

module _ (ks : List ℕ) (rising : rising_from 0 ks ≡ true) (few : below (2 ^ 28) ks ≡ true) where
  named_passes : (i x w : ℕ) → w ≡ x → stands x ks ≡ true → named_refusal ks i w ≡ None
  named_passes i x w e s =
      rw e (all_passed (serial_refusal x i ∷ refuse_if (not (stands x ks)) (refusal 5 i part.Kind) ∷ [])
      (serial_passes x i (stands_above 0 ks x rising s) (stands-below (2 ^ 28) ks x few s), (unrefused (not (stands x ks)) (refusal 5 i part.Kind) (not_from_true (stands x ks) s), tt)))

  -- lines in order between these kinds, and the end that counts the words before it
  lines_pass : (ls : List Line) (n last i : ℕ) → rising_from last (map line_key ls) ≡ true → joining ks ls ≡ true → n + length ls ≤ 2048 → i + 2 * length ls < 2 ^ 28
      → lines_refusal ks n last i (flat_map line_words ls ++ word_of ImageEnd (i + 2 * length ls) ∷ []) ≡ None
  lines_pass [] n last i r j m b =
      let e : ℕ = word_of ImageEnd (i + 2 * 0) in
      let count : low_bits e ≡ i = low_of ImageEnd (i + 2 * 0) (omega arith) ∙ omega arith in
      cond-true (is_kind ImageEnd e) (end_refusal i e []) _ (kind_of ImageEnd (i + 2 * 0) (omega arith))
      ∙ passes (refuse_if (not (eqb (low_bits e) i)) (not_due i)) _ None (unrefused (not (eqb (low_bits e) i)) (not_due i) (not_from_true (eqb (low_bits e) i) (eq-eqb (low_bits e) i count))) refl
  lines_pass (l ∷ ls) n last i r j m b =
      let p = and_parts (ltb last (line_key l)) (rising_from (line_key l) (map line_key ls)) r in
      let up = ltb-true last (line_key l) p.0 in
      let q = and_parts (joins ks l) (joining ks ls) j in
      let child = and_parts (stands l.child ks) (stands l.parent ks && not (eqb l.child l.parent)) q.0 in
      let parent = and_parts (stands l.parent ks) (not (eqb l.child l.parent)) child.1 in
      let c-small = stands-below (2 ^ 28) ks l.child few child.0 in
      let p-small = stands-below (2 ^ 28) ks l.parent few parent.0 in
      let c : ℕ = word_of Child l.child in
      let d : ℕ = word_of Parent l.parent in
      let c-low : low_bits c ≡ l.child = low_of Child l.child c-small in
      let d-low : low_bits d ≡ l.parent = low_of Parent l.parent p-small in
      let key : line_key (line_in c d) ≡ line_key l = ap₂ (λ (x y : ℕ). x * 2 ^ 32 + y) c-low d-low in
      let count : i + 2 * suc (length ls) ≡ i + 2 + 2 * length ls = omega arith in
      let ws : List ℕ = flat_map line_words ls ++ word_of ImageEnd (i + 2 * suc (length ls)) ∷ [] in
      let first = all_passed (refuse_if (not (is_kind Child c)) (not_due i) ∷ named_refusal ks i (low_bits c) ∷ [])
      (kind_passes Child l.child (not_due i) c-small, (named_passes i l.child (low_bits c) c-low child.0, tt)) in
      let second = all_passed (refuse_if (not (is_kind Parent d)) (not_due (i + 1)) ∷ named_refusal ks (i + 1) (low_bits d) ∷ refuse_if (eqb (low_bits c) (low_bits d)) (refusal 7 (i + 1) part.Line)
      ∷ refuse_if (leb 2048 n) (refusal 9 (i + 1) part.Line) ∷ refuse_if (leb (line_key (line_in c d)) last) (not_due (i + 1)) ∷ []) (
        kind_passes Parent l.parent (not_due (i + 1)) p-small,
        (
          named_passes (i + 1) l.parent (low_bits d) d-low parent.0,
          (
            unrefused (eqb (low_bits c) (low_bits d)) (refusal 7 (i + 1) part.Line) (rw (c-low, d-low) (not-true (eqb l.child l.parent) parent.1)),
            (
              unrefused (leb 2048 n) (refusal 9 (i + 1) part.Line) (lt-leb 2048 n (omega arith)),
              (unrefused (leb (line_key (line_in c d)) last) (not_due (i + 1)) (ap (λ (x : ℕ). leb x last) key ∙ lt-leb (line_key l) last up), tt),
            ),
          ),
        ),
      ) in
      let later : lines_refusal ks (n + 1) (line_key (line_in c d)) (i + 2) ws ≡ None =
      ap₂ (λ (x y : ℕ). lines_refusal ks (n + 1) x (i + 2) (flat_map line_words ls ++ word_of ImageEnd y ∷ [])) key count
      ∙ lines_pass ls (n + 1) (line_key l) (i + 2) p.1 q.1 (omega arith) (omega arith) in
      cond-false (is_kind ImageEnd c) (end_refusal i c (d ∷ ws)) _ (child_goes_on l.child c-small)
      ∙ all_passed (child_refusal ks i c ∷ parent_refusal ks n last (i + 1) c d ∷ lines_refusal ks (n + 1) (line_key (line_in c d)) (i + 2) ws ∷ []) (first, (second, (later, tt)))

  pairs_back : (ls : List Line) (e : ℕ) → joining ks ls ≡ true → pairs_in (flat_map line_words ls ++ e ∷ []) ≡ ls
  pairs_back [] e j = refl
  pairs_back (l ∷ ls) e j =
      let q = and_parts (joins ks l) (joining ks ls) j in
      let child = and_parts (stands l.child ks) (stands l.parent ks && not (eqb l.child l.parent)) q.0 in
      let parent = and_parts (stands l.parent ks) (not (eqb l.child l.parent)) child.1 in
      let made : ℕ → ℕ → Line = λ x y. record { child = x; parent = y } in
      let line : line_in (word_of Child l.child) (word_of Parent l.parent) ≡ l =
      ap₂ made (low_of Child l.child (stands-below (2 ^ 28) ks l.child few child.0)) (low_of Parent l.parent (stands-below (2 ^ 28) ks l.parent few parent.0)) in
      ap₂ (λ (m : Line) (ms : List Line). m ∷ ms) line (pairs_back ls e q.1)

serials_back : (ks : List ℕ) → below (2 ^ 28) ks ≡ true → serials_in (map (word_of Name) ks) ≡ ks
serials_back [] b = refl
serials_back (k ∷ ks) b =
    let q = and_parts (ltb k (2 ^ 28)) (below (2 ^ 28) ks) b in
    ap₂ (λ (x : ℕ) (us : List ℕ). x ∷ us) (low_of Name k (ltb-true k (2 ^ 28) q.0)) (serials_back ks q.1)

pub reads_back : (w : ℕ) (kinds : List ℕ) (lines : List Line) → CanHold w kinds lines → ReadsBack w kinds lines
reads_back w kinds lines h =
    let n : ℕ = length kinds in
    let N : List ℕ = map (word_of Name) kinds in
    let J : List ℕ = flat_map line_words lines in
    let e : ℕ = word_of ImageEnd (length (image_body kinds lines)) in
    let head : ℕ = word_of ImageHead n in
    let rest : List ℕ = (N ++ J) ++ e ∷ [] in
    let small : n < 2 ^ 28 = omega (arith, h.wide, h.places) in
    let low : low_bits head ≡ n = low_of ImageHead n small in
    let split : rest ≡ N ++ (J ++ e ∷ []) = append_assoc N J (e ∷ []) in
    let long : length N ≡ n = length-map kinds (word_of Name) in
    let taken : take (low_bits head) rest ≡ N = ap₂ (λ (k : ℕ) (us : List ℕ). take k us) low split ∙ take_at N (J ++ e ∷ []) n long in
    let dropped : drop (low_bits head) rest ≡ J ++ e ∷ [] = ap₂ (λ (k : ℕ) (us : List ℕ). drop k us) low split ∙ drop_at N (J ++ e ∷ []) n long in
    let named : serials_in (take (low_bits head) rest) ≡ kinds = ap serials_in taken ∙ serials_back kinds h.serials in
    let count : length (image_body kinds lines) ≡ n + 1 + 2 * length lines = omega (arith, length-image kinds lines) in
    let names-ok : names_refusal not_due (low_bits head) 0 1 rest ≡ None =
    ap₂ (λ (k : ℕ) (us : List ℕ). names_refusal not_due k 0 1 us) low split ∙ names_pass not_due kinds 0 1 (J ++ e ∷ []) h.rising h.serials in
    let lines_ok : lines_refusal (serials_in (take (low_bits head) rest)) 0 0 (low_bits head + 1) (drop (low_bits head) rest) ≡ None =
    ap₂ (λ (us vs : List ℕ). lines_refusal us 0 0 (low_bits head + 1) vs) named dropped
    ∙ ap₂ (λ (k j : ℕ). lines_refusal kinds 0 0 (k + 1) (J ++ word_of ImageEnd j ∷ [])) low count
    ∙ lines_pass kinds h.rising h.serials lines 0 0 (n + 1) h.ordered h.joins (omega (arith, h.few)) (omega (arith, h.few, h.wide, h.places)) in
    record {
      accepted =
          all_passed (refuse_if (not (is_kind ImageHead head)) (not_due 0) ∷ refuse_if (ltb w (low_bits head)) (refusal 4 0 part.Kind) ∷ names_refusal not_due (low_bits head) 0 1 rest
          ∷ lines_refusal (serials_in (take (low_bits head) rest)) 0 0 (low_bits head + 1) (drop (low_bits head) rest) ∷ []) (
            kind_passes ImageHead n (not_due 0) small,
            (unrefused (ltb w (low_bits head)) (refusal 4 0 part.Kind) (le-ltb w (low_bits head) (omega (arith, h.places))), (names-ok, (lines_ok, tt))),
          );
      same_kinds = named;
      same_lines = ap pairs_in dropped ∙ pairs_back kinds h.rising h.serials lines e h.joins;
    }

pub tells_apart : (v : ℕ) (kinds : List ℕ) (lines : List Line) → CanHold v kinds lines → TellsApart kinds lines
tells_apart v kinds lines h w kinds' lines' h' e =
    let here = reads_back v kinds lines h in
    let there = reads_back w kinds' lines' h' in
    (sym there.same_kinds ∙ ap kinds_in e ∙ here.same_kinds, sym there.same_lines ∙ ap lines_in e ∙ here.same_lines)
