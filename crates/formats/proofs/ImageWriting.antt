-- An image, written part by part: the names, the lines, and the words around them.
use Rattle.std.proofs.Common.{◌≡◌, ℕ, zero, suc, ◌+◌, ◌-◌, ◌*◌, ◌^◌, ◌<◌, ◌≤◌, true, List, [], ◌∷◌, ◌++◌, map, length, get_or, take, drop, set, sym, refl, ap, ◌∙◌, ap₂, arith}
use Rattle.std.specs.List.{flat_map}
use lib.Seq.{paste}
use borrow.Rule.Slice.PartMut.{put_mid}
use Rattle.std.proofs.lemmas.List.Edits.{paste_more, paste_all, length-paste}
use Rattle.std.proofs.lemmas.List.{append_assoc, append-nil, drop_all, length-append, length-map, set_split, get_or-map}
use Rattle.std.proofs.lemmas.Slice.{put_mid-paste, take-put_mid, drop-put_mid}
use Rattle.descent.specs.declared.kind.Kind.{Kind}
use Rattle.descent.specs.declared.line.Line.{Line}
use Rattle.descent.specs.Lines.{serials_of}
use Rattle.descent.specs.Proper.{below}
use Rattle.descent.proofs.Proper.{below_at}
use Rattle.words.specs.declared.word.WordKind.TheVariants.{Name, ImageHead, Child, Parent, ImageEnd}
use Rattle.words.specs.Words.{low_bits, word_of}
use Rattle.words.proofs.Parts.{low_same}
use Rattle.formats.specs.Formats.{line_words, image_body, image_of}

pub length_lines : (ls : List Line) → length (flat_map line_words ls) ≡ 2 * length ls
length_lines [] = refl
length_lines (l ∷ ls) = let h = length_lines ls in omega arith

pub length-image : (ks : List ℕ) (ls : List Line) → length (image_body ks ls) ≡ 1 + length ks + 2 * length ls
length-image ks ls =
    let a = length-append (map (word_of Name) ks) (flat_map line_words ls) in
    let b = length-map ks (word_of Name) in
    let c = length_lines ls in
    omega arith

-- a list that is written over as a whole
pub paste_whole : (old words : List ℕ) (n : ℕ) → n ≡ length old → length old ≡ length words → paste old 0 words n ≡ words
paste_whole old words n e long =
    paste_all old 0 words n (e ∙ long) ∙ ap (λ (ys : List ℕ). words ++ ys) (drop_all (0 + n) old (omega arith)) ∙ append-nil words

-- the name of one more kind
pub name_written : (ks : List Kind) (old names : List ℕ) (i word : ℕ) (d : Kind) → below (2 ^ 28) (serials_of ks) ≡ true → i < length ks → length old ≡ length ks
    → word ≡ word_of Name (low_bits (get_or ks i d).serial) → names ≡ paste old 0 (map (word_of Name) (serials_of ks)) i
    → set names i word ≡ paste old 0 (map (word_of Name) (serials_of ks)) (i + 1)
name_written ks old names i word d few l long w e =
    let N : List ℕ = map (word_of Name) (serials_of ks) in
    let many = length-map ks (λ k. k.serial) in
    let is = get_or-map (λ k. k.serial) ks i d 0 l in
    let low = low_same (get_or ks i d).serial (omega (arith, below_at (2 ^ 28) (serials_of ks) few i (omega arith))) in
    let word-is : word ≡ get_or N i 0 = w ∙ ap (word_of Name) (low ∙ sym is) ∙ sym (get_or-map (word_of Name) (serials_of ks) i 0 0 (omega arith)) in
    let at : i ≡ 0 + i = omega arith in
    ap₂ (λ (ys : List ℕ) (y : ℕ). set ys i y) e word-is ∙ ap (λ (j : ℕ). set (paste old 0 N i) j (get_or N i 0)) at
    ∙ paste_more old 0 N i 0 (omega arith) (omega (arith, length-map (serials_of ks) (word_of Name)))

-- where the two words of a line stand
line_at : (ls : List Line) (i : ℕ) (d : Line) → i < length ls
    → (get_or (flat_map line_words ls) (2 * i) 0 ≡ word_of Child (get_or ls i d).child) × (get_or (flat_map line_words ls) (2 * i + 1) 0 ≡ word_of Parent (get_or ls i d).parent)
line_at [] i d l = absurd (omega arith)
line_at (m ∷ ls) zero d l = (refl, refl)
line_at (m ∷ ls) (suc i) d l =
    let h = line_at ls i d (omega arith) in
    let child : 2 * suc i ≡ suc (suc (2 * i)) = omega arith in
    let parent : 2 * suc i + 1 ≡ suc (suc (2 * i + 1)) = omega arith in
    (rw child h.0, rw parent h.1)

-- the two words of one more line
pub line_written : (ls : List Line) (old words : List ℕ) (i c p : ℕ) (d : Line) → below (2 ^ 28) (map (λ m. m.child) ls) ≡ true → below (2 ^ 28) (map (λ m. m.parent) ls) ≡ true → i < length ls
    → length old ≡ 2 * length ls → c ≡ word_of Child (low_bits (get_or ls i d).child) → p ≡ word_of Parent (low_bits (get_or ls i d).parent) → words ≡ paste old 0 (flat_map line_words ls) (2 * i)
    → set (set words (2 * i) c) (2 * i + 1) p ≡ paste old 0 (flat_map line_words ls) (2 * (i + 1))
line_written ls old words i c p d children parents l long ec ep e =
    let J : List ℕ = flat_map line_words ls in
    let many = length_lines ls in
    let at = line_at ls i d l in
    let child = low_same (get_or ls i d).child (omega (arith, length-map ls (λ m. m.child), below_at (2 ^ 28) (map (λ m. m.child) ls) children i (omega (arith, length-map ls (λ m. m.child))), get_or-map (λ m. m.child) ls i d 0 l)) in
    let parent = low_same (get_or ls i d).parent (omega (arith, length-map ls (λ m. m.parent), below_at (2 ^ 28) (map (λ m. m.parent) ls) parents i (omega (arith, length-map ls (λ m. m.parent))), get_or-map (λ m. m.parent) ls i d 0 l)) in
    let c-is : c ≡ get_or J (2 * i) 0 = ec ∙ ap (word_of Child) child ∙ sym at.0 in
    let p-is : p ≡ get_or J (2 * i + 1) 0 = ep ∙ ap (word_of Parent) parent ∙ sym at.1 in
    let one : set (paste old 0 J (2 * i)) (2 * i) (get_or J (2 * i) 0) ≡ paste old 0 J (2 * i + 1) =
    ap (λ (j : ℕ). set (paste old 0 J (2 * i)) j (get_or J (2 * i) 0)) (omega arith) ∙ paste_more old 0 J (2 * i) 0 (omega arith) (omega arith) in
    let two : set (paste old 0 J (2 * i + 1)) (2 * i + 1) (get_or J (2 * i + 1) 0) ≡ paste old 0 J (2 * i + 1 + 1) =
    ap (λ (j : ℕ). set (paste old 0 J (2 * i + 1)) j (get_or J (2 * i + 1) 0)) (omega arith) ∙ paste_more old 0 J (2 * i + 1) 0 (omega arith) (omega arith) in
    let count : 2 * i + 1 + 1 ≡ 2 * (i + 1) = omega arith in
    rw (e, c-is, p-is, one) (two ∙ ap (paste old 0 J) count)

-- a part that is written keeps the list's length
length-part : (a k : ℕ) (xs ys : List ℕ) → a + k ≤ length xs → length ys ≡ k → length (put_mid a k xs ys) ≡ length xs
length-part a k xs ys room e = ap length (put_mid-paste a k xs ys ys k refl refl (sym e)) ∙ length-paste xs a ys k room (omega arith)

-- a head, the names, the lines and the end, each written at its place
pub image_written : (ks : List ℕ) (ls : List Line) (old names lines : List ℕ) (n m head end : ℕ) → n ≡ length ks → m ≡ length ls → 2 + n + 2 * m ≤ length old
    → head ≡ word_of ImageHead n → end ≡ word_of ImageEnd (1 + n + 2 * m) → names ≡ map (word_of Name) ks → lines ≡ flat_map line_words ls
    → set (put_mid (1 + n) (1 + n + 2 * m - (1 + n)) (put_mid 1 (1 + n - 1) (set old 0 head) names) lines) (1 + n + 2 * m) end ≡ image_of ks ls ++ drop (length (image_of ks ls)) old
image_written ks ls [] names lines n m head end en em room h e a b = absurd (omega arith)
image_written ks ls (o ∷ os) names lines n m head end en em room h e a b =
    let k : ℕ = 1 + n + 2 * m in
    let first : List ℕ = put_mid 1 (1 + n - 1) (head ∷ os) names in
    let both : List ℕ = put_mid (1 + n) (k - (1 + n)) first lines in
    let long-names : length names ≡ 1 + n - 1 = omega (arith, ap length a, length-map ks (word_of Name)) in
    let long-lines : length lines ≡ k - (1 + n) = omega (arith, ap length b, length_lines ls) in
    let long-first : length first ≡ length (o ∷ os) = length-part 1 (1 + n - 1) (head ∷ os) names (omega arith) long-names in
    let long-both : length both ≡ length (o ∷ os) = length-part (1 + n) (k - (1 + n)) first lines (omega arith) long-lines ∙ long-first in
    let body : take k both ≡ (head ∷ names) ++ lines =
    take-put_mid (1 + n) (k - (1 + n)) first lines k (omega arith) (omega arith)
    ∙ ap (λ (ys : List ℕ). ys ++ lines) (take-put_mid 1 (1 + n - 1) (head ∷ os) names (1 + n) (omega arith) (omega arith)) in
    let rest : drop (suc k) both ≡ drop (suc k) (head ∷ os) =
    drop-put_mid (1 + n) (k - (1 + n)) first lines (suc k) (omega arith) (omega arith) long-lines
    ∙ drop-put_mid 1 (1 + n - 1) (head ∷ os) names (suc k) (omega arith) (omega arith) long-names in
    let is : (head ∷ names) ++ lines ≡ image_body ks ls = rw (h, en, a, b) refl in
    let many : k ≡ length (image_body ks ls) = omega (arith, length-image ks ls) in
    let total : suc k ≡ length (image_of ks ls) = omega (arith, length-append (image_body ks ls) (word_of ImageEnd (length (image_body ks ls)) ∷ [])) in
    let whole : set both k end ≡ image_body ks ls ++ end ∷ drop (suc k) (o ∷ os) =
    set_split both k end (omega arith) ∙ ap₂ (λ (ys zs : List ℕ). ys ++ end ∷ zs) (body ∙ is) rest in
    whole ∙ ap₂ (λ (y : ℕ) (j : ℕ). image_body ks ls ++ y ∷ drop j (o ∷ os)) (e ∙ ap (word_of ImageEnd) many) total
    ∙ sym (append_assoc (image_body ks ls) (word_of ImageEnd (length (image_body ks ls)) ∷ []) (drop (length (image_of ks ls)) (o ∷ os)))
