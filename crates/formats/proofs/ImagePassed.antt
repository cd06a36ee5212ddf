-- What is true of words that pass as an image.
use Rattle.std.proofs.Common.{◌≡◌, ℕ, zero, suc, ◌+◌, ◌-◌, ◌*◌, ◌^◌, ◌<◌, ◌≤◌, true, false, not, ◌&&◌, eqb, ltb, leb, List, [], ◌∷◌, ◌++◌, map, length, get_or, take, drop, Some, None, Option, sym, refl, ap, ◌∙◌, ap₂, ⊎_elim, arith}
use Rattle.std.specs.List.{flat_map}
use Rattle.std.proofs.lemmas.List.{length-map, length-take-le, take-append-drop, take_rest, append_assoc}
use Rattle.std.proofs.lemmas.Bool.{and_from, lt-ltb, ltb-false, leb-false, eqb-true, not-false, not_from_false, cond-true, cond-false, cases_Bool}
use Rattle.descent.specs.declared.line.Line.{Line}
use Rattle.descent.specs.Lines.{stands}
use Rattle.descent.specs.Order.{rising_from, line_key}
use Rattle.descent.specs.Proper.{CanHold, below, joins, joining}
use Rattle.words.specs.declared.refusal.Refusal.{Refusal}
use Rattle.words.specs.declared.refusal.Part.TheVariants as part
use Rattle.words.specs.declared.word.WordKind.TheVariants.{Name, ImageHead, Child, Parent, ImageEnd}
use Rattle.words.specs.Words.{low_bits, is_kind, word_of}
use Rattle.words.specs.Refusals.{refusal, refuse_if, serial_refusal}
use Rattle.formats.specs.Formats.{not_due, nothing_due, names_refusal, named_refusal, child_refusal, parent_refusal, end_refusal, lines_refusal, image_refusal, serials_in, line_in, line_words, pairs_in, kinds_in, lines_in, image_body, image_of, count_in}
use Rattle.formats.proofs.NameRuns.{name_passed, names_passed}
use Rattle.words.proofs.Parts.{word_back, was_kind}
use Rattle.words.proofs.Chain.{all_pass, each_passes, not-refused, good_serial}
use Rattle.formats.proofs.ImageWriting.{length-image}

-- a refusal is never nothing
none_refused : {X : Type 0} (r : Refusal) → Some r ≡ None → X
none_refused r e = let z : ◌≡◌ {A = ℕ} 0 1 = cc in absurd (omega arith)

pub low_below : (ws : List ℕ) → below (2 ^ 28) (serials_in ws) ≡ true
low_below [] = refl
low_below (w ∷ ws) = and_from (ltb (low_bits w) (2 ^ 28)) (below (2 ^ 28) (serials_in ws)) (lt-ltb (low_bits w) (2 ^ 28) (omega arith)) (low_below ws)

named_passed : (ks : List ℕ) (i x : ℕ) → named_refusal ks i x ≡ None → (0 < x) × (stands x ks ≡ true)
named_passed ks i x e =
    let missing : Refusal = refusal 5 i part.Kind in
    let p = each_passes (serial_refusal x i ∷ refuse_if (not (stands x ks)) missing ∷ []) e in
    ((good_serial x i p.0).0, not-false (stands x ks) (not-refused (not (stands x ks)) missing p.1.0))

child_passed : (ks : List ℕ) (i c : ℕ) → child_refusal ks i c ≡ None → (is_kind Child c ≡ true) × (stands (low_bits c) ks ≡ true)
child_passed ks i c e =
    let p = each_passes (refuse_if (not (is_kind Child c)) (not_due i) ∷ named_refusal ks i (low_bits c) ∷ []) e in
    (was_kind Child c (not_due i) p.0, (named_passed ks i (low_bits c) p.1.0).1)

parent_passed : (ks : List ℕ) (n last i c p : ℕ) → parent_refusal ks n last i c p ≡ None
    → (is_kind Parent p ≡ true) × (stands (low_bits p) ks ≡ true) × (eqb (low_bits c) (low_bits p) ≡ false) × (n < 2048) × (last < line_key (line_in c p))
parent_passed ks n last i c p e =
    let own : Refusal = refusal 7 i part.Line in
    let many : Refusal = refusal 9 i part.Line in
    let key : ℕ = line_key (line_in c p) in
    let q = each_passes (refuse_if (not (is_kind Parent p)) (not_due i) ∷ named_refusal ks i (low_bits p) ∷ refuse_if (eqb (low_bits c) (low_bits p)) own ∷ refuse_if (leb 2048 n) many ∷ refuse_if (leb key last) (not_due i) ∷ []) e in (
      was_kind Parent p (not_due i) q.0,
      (named_passed ks i (low_bits p) q.1.0).1,
      not-refused (eqb (low_bits c) (low_bits p)) own q.1.1.0,
      leb-false 2048 n (not-refused (leb 2048 n) many q.1.1.1.0),
      leb-false key last (not-refused (leb key last) (not_due i) q.1.1.1.1.0),
    )

-- the end that passed counts the words before it, and nothing follows it
end_passed : (i e : ℕ) (ws : List ℕ) → end_refusal i e ws ≡ None → (low_bits e ≡ i) × (nothing_due not_due (i + 1) ws ≡ None)
end_passed i e ws h =
    let p = each_passes (refuse_if (not (eqb (low_bits e) i)) (not_due i) ∷ nothing_due not_due (i + 1) ws ∷ []) h in
    (eqb-true (low_bits e) i (not-false (eqb (low_bits e) i) (not-refused (not (eqb (low_bits e) i)) (not_due i) p.0)), p.1.0)

-- what a line and all that follows it show where they pass
abbrev Lined : List ℕ → ℕ → ℕ → ℕ → List ℕ → Type 0
Lined ks n last i ws =
    (rising_from last (map line_key (pairs_in ws)) ≡ true) × (joining ks (pairs_in ws) ≡ true) × (n + length (pairs_in ws) ≤ 2048)
    × (flat_map line_words (pairs_in ws) ++ word_of ImageEnd (i + 2 * length (pairs_in ws)) ∷ [] ≡ ws)

pub lines_passed : (ks : List ℕ) (n last i : ℕ) (ws : List ℕ) → n ≤ 2048 → lines_refusal ks n last i ws ≡ None → Lined ks n last i ws
lines_passed ks n last i [] l e = none_refused (not_due i) e
lines_passed ks n last i (c ∷ []) l e =
    ⊎_elim
    (λ (h : is_kind ImageEnd c ≡ true).
    let count : i + 2 * 0 ≡ low_bits c = omega (arith, (end_passed i c [] (sym (cond-true (is_kind ImageEnd c) (end_refusal i c []) _ h) ∙ e)).0) in
    (refl, refl, omega arith, ap (λ (x : ℕ). x ∷ []) (ap (word_of ImageEnd) count ∙ word_back ImageEnd c h)))
    (λ (h : is_kind ImageEnd c ≡ false).
    let a = all_pass (child_refusal ks i c) (Some (not_due (i + 1)) ∷ []) (sym (cond-false (is_kind ImageEnd c) (end_refusal i c []) _ h) ∙ e) in
    none_refused (not_due (i + 1)) a.1)
    (cases_Bool (is_kind ImageEnd c))
lines_passed ks n last i (c ∷ p ∷ ws) l e =
    ⊎_elim
    (λ (h : is_kind ImageEnd c ≡ true). none_refused (not_due (i + 1)) (end_passed i c (p ∷ ws) (sym (cond-true (is_kind ImageEnd c) (end_refusal i c (p ∷ ws)) _ h) ∙ e)).1)
    (λ (h : is_kind ImageEnd c ≡ false).
    let later : Option Refusal = lines_refusal ks (n + 1) (line_key (line_in c p)) (i + 2) ws in
    let q = each_passes (child_refusal ks i c ∷ parent_refusal ks n last (i + 1) c p ∷ later ∷ []) (sym (cond-false (is_kind ImageEnd c) (end_refusal i c (p ∷ ws)) _ h) ∙ e) in
    let child = child_passed ks i c q.0 in
    let parent = parent_passed ks n last (i + 1) c p q.1.0 in
    let rest = lines_passed ks (n + 1) (line_key (line_in c p)) (i + 2) ws (omega (arith, parent.3)) q.1.1.0 in
    let count : i + 2 * suc (length (pairs_in ws)) ≡ i + 2 + 2 * length (pairs_in ws) = omega arith in (
      and_from (ltb last (line_key (line_in c p))) (rising_from (line_key (line_in c p)) (map line_key (pairs_in ws))) (lt-ltb last (line_key (line_in c p)) parent.4) rest.0,
      and_from (joins ks (line_in c p)) (joining ks (pairs_in ws))
          (and_from (stands (low_bits c) ks) (stands (low_bits p) ks && not (eqb (low_bits c) (low_bits p))) child.1
          (and_from (stands (low_bits p) ks) (not (eqb (low_bits c) (low_bits p))) parent.1 (not_from_false (eqb (low_bits c) (low_bits p)) parent.2))) rest.1,
      omega (arith, rest.2),
      ap₂ (λ (x : ℕ) (us : List ℕ). x ∷ us) (word_back Child c child.0)
          (ap₂ (λ (x : ℕ) (us : List ℕ). x ∷ us) (word_back Parent p parent.0)
          (ap (λ (k : ℕ). flat_map line_words (pairs_in ws) ++ word_of ImageEnd k ∷ []) count ∙ rest.3)),
    ))
    (cases_Bool (is_kind ImageEnd c))

-- names that pass are the names of their serials
pub names_back : (due : ℕ → Refusal) (n last i : ℕ) (ws : List ℕ) → names_refusal due n last i ws ≡ None → map (word_of Name) (serials_in (take n ws)) ≡ take n ws
names_back due zero last i ws e = refl
names_back due (suc n) last i [] e = none_refused (due i) e
names_back due (suc n) last i (w ∷ ws) e =
    let p = name_passed due n last i w ws e in
    ap₂ (λ (x : ℕ) (us : List ℕ). x ∷ us) (word_back Name w p.0) (names_back due n (low_bits w) (i + 1) ws p.2)

-- the checks of an image, each passed
pub record Passed (w : ℕ) (ws : List ℕ) : Type 0 where
  pub some : 0 < length ws
  pub head : is_kind ImageHead (get_or ws 0 0) ≡ true
  pub fits : count_in ws ≤ w
  pub names : names_refusal not_due (count_in ws) 0 1 (drop 1 ws) ≡ None
  pub lines : Lined (kinds_in ws) 0 0 (count_in ws + 1) (drop (count_in ws) (drop 1 ws))

pub image_passed : (w : ℕ) (ws : List ℕ) → image_refusal w ws ≡ None → Passed w ws
image_passed w [] e = none_refused (not_due 0) e
image_passed w (h ∷ ws) e =
    let full : Refusal = refusal 4 0 part.Kind in
    let names : Option Refusal = names_refusal not_due (low_bits h) 0 1 ws in
    let lines : Option Refusal = lines_refusal (kinds_in (h ∷ ws)) 0 0 (low_bits h + 1) (drop (low_bits h) ws) in
    let p = each_passes (refuse_if (not (is_kind ImageHead h)) (not_due 0) ∷ refuse_if (ltb w (low_bits h)) full ∷ names ∷ lines ∷ []) e in
    record {
      some = omega arith;
      head = was_kind ImageHead h (not_due 0) p.0;
      fits = ltb-false w (low_bits h) (not-refused (ltb w (low_bits h)) full p.1.0);
      names = p.1.1.0;
      lines = lines_passed (kinds_in (h ∷ ws)) 0 0 (low_bits h + 1) (drop (low_bits h) ws) (omega arith) p.1.1.1.0;
    }

-- what an image names and joins, a catalogue can hold
pub passed_hold : (w : ℕ) (ws : List ℕ) → w ≤ 512 → image_refusal w ws ≡ None → CanHold w (kinds_in ws) (lines_in ws)
passed_hold w [] l e = none_refused (not_due 0) e
passed_hold w (h ∷ ws) l e =
    let p = image_passed w (h ∷ ws) e in
    let n = names_passed not_due (low_bits h) 0 1 ws p.names in
    let long = length-take-le (low_bits h) ws n.0 in
    record {
      wide = l;
      places = omega (arith, p.fits, length-map (take (low_bits h) ws) low_bits);
      rising = n.1;
      serials = low_below (take (low_bits h) ws);
      ordered = p.lines.0;
      joins = p.lines.1;
      few = omega (arith, p.lines.2);
    }

-- an image that is read writes back as the same words
pub image_back : (w : ℕ) (ws : List ℕ) → image_refusal w ws ≡ None → image_of (kinds_in ws) (lines_in ws) ≡ ws
image_back w [] e = none_refused (not_due 0) e
image_back w (h ∷ ws) e =
    let p = image_passed w (h ∷ ws) e in
    let n : ℕ = low_bits h in
    let kinds : List ℕ = serials_in (take n ws) in
    let lines : List Line = pairs_in (drop n ws) in
    let fit = names_passed not_due n 0 1 ws p.names in
    let many : length kinds ≡ n = length-map (take n ws) low_bits ∙ length-take-le n ws fit.0 in
    let count : length (image_body kinds lines) ≡ n + 1 + 2 * length lines = omega (arith, length-image kinds lines) in
    let J : List ℕ = flat_map line_words lines in
    let end : ℕ = word_of ImageEnd (length (image_body kinds lines)) in
    let lined : J ++ end ∷ [] ≡ drop n ws = ap (λ (k : ℕ). J ++ word_of ImageEnd k ∷ []) count ∙ p.lines.3 in
    ap₂ (λ (x : ℕ) (us : List ℕ). x ∷ us) (ap (word_of ImageHead) many ∙ word_back ImageHead h p.head)
    (append_assoc (map (word_of Name) kinds) J (end ∷ []) ∙ ap₂ (λ (us vs : List ℕ). us ++ vs) (names_back not_due n 0 1 ws p.names) lined ∙ take-append-drop n ws)

-- the two parts behind the head, as they are cut out of the words
pub record Cut (w n : ℕ) (ws : List ℕ) : Type 0 where
  pub within : n + 1 ≤ length ws
  pub count : length (take (n + 1 - 1) (drop 1 ws)) ≡ n
  pub fits : n ≤ w
  pub named : serials_in (take (n + 1 - 1) (drop 1 ws)) ≡ kinds_in ws
  pub lined : pairs_in (take (length ws - (n + 1)) (drop (n + 1) ws)) ≡ lines_in ws

pub image-cut : (w n : ℕ) (ws : List ℕ) → image_refusal w ws ≡ None → n ≡ count_in ws → Cut w n ws
image-cut w n [] e c = none_refused (not_due 0) e
image-cut w n (h ∷ ws) e c =
    let p = image_passed w (h ∷ ws) e in
    let fit = names_passed not_due (low_bits h) 0 1 ws p.names in
    let m : n + 1 - 1 ≡ low_bits h = omega arith in
    let k : n + 1 ≡ suc (low_bits h) = omega arith in
    record {
      within = omega (arith, fit.0);
      count = ap (λ (i : ℕ). length (take i ws)) m ∙ length-take-le (low_bits h) ws fit.0 ∙ sym c;
      fits = omega (arith, p.fits);
      named = ap (λ (i : ℕ). serials_in (take i ws)) m;
      lined = ap pairs_in (take_rest (h ∷ ws) (n + 1) ∙ ap (λ (i : ℕ). drop i (h ∷ ws)) k);
    }
