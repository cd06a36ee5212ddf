-- Words that should be an image, checked from the left.
use Rattle.std.proofs.Common.{◌≡◌, ℕ, ◌+◌, ◌<◌, ◌≤◌, true, false, not, ltb, List, [], ◌∷◌, length, get_or, take, drop, Some, None, sym, refl, ◌∙◌, arith}
use Rattle.std.proofs.lemmas.Bool.{cond-false, not_from_true, le-ltb}
use Rattle.descent.specs.Order.{line_key}
use Rattle.words.specs.declared.refusal.Refusal.{Refusal}
use Rattle.words.specs.declared.refusal.Part.TheVariants as part
use Rattle.words.specs.declared.word.WordKind.TheVariants.{ImageHead, ImageEnd}
use Rattle.words.specs.Words.{low_bits, is_kind}
use Rattle.words.specs.Refusals.{refusal, refuse_if, first_of}
use Rattle.formats.specs.Formats.{not_due, names_refusal, child_refusal, parent_refusal, line_refusal, end_refusal, lines_refusal, image_refusal, serials_in, line_in, pairs_in, count_in}
use Rattle.words.proofs.Chain.{passes, last_check, stops, unrefused, first_flat}

-- a line is checked, and then the rest
lines_next : (ks : List ℕ) (n last i : ℕ) (ws : List ℕ) → 2 ≤ length ws → is_kind ImageEnd (get_or ws 0 0) ≡ false
    → lines_refusal ks n last i ws ≡ first_of (line_refusal ks n last i (get_or ws 0 0) (get_or ws 1 0) ∷ lines_refusal ks (n + 1) (line_key (line_in (get_or ws 0 0) (get_or ws 1 0))) (i + 2) (drop 2 ws) ∷ [])
lines_next ks n last i [] l e = absurd (omega arith)
lines_next ks n last i (c ∷ []) l e = absurd (omega arith)
lines_next ks n last i (c ∷ p ∷ ws) l e =
    cond-false (is_kind ImageEnd c) (end_refusal i c (p ∷ ws)) _ e ∙ sym (first_flat (child_refusal ks i c ∷ parent_refusal ks n last (i + 1) c p ∷ []) (lines_refusal ks (n + 1) (line_key (line_in c p)) (i + 2) ws ∷ []))

module _ (ks : List ℕ) (n last i : ℕ) (ws : List ℕ) (two : 2 ≤ length ws) (goes_on : is_kind ImageEnd (get_or ws 0 0) ≡ false) where
  pub lines_wrong : (r : Refusal) → line_refusal ks n last i (get_or ws 0 0) (get_or ws 1 0) ≡ Some r → lines_refusal ks n last i ws ≡ Some r
  lines_wrong r e = lines_next ks n last i ws two goes_on ∙ stops _ _ r e

  pub lines_right : line_refusal ks n last i (get_or ws 0 0) (get_or ws 1 0) ≡ None
      → lines_refusal ks n last i ws ≡ lines_refusal ks (n + 1) (line_key (line_in (get_or ws 0 0) (get_or ws 1 0))) (i + 2) (drop 2 ws)
  lines_right e = lines_next ks n last i ws two goes_on ∙ passes _ _ _ e (last_check _ _ refl)

-- behind the right head and names that pass, the lines are checked
pub image_lines : (w n : ℕ) (ws rest names lines : List ℕ) → 0 < length ws → is_kind ImageHead (get_or ws 0 0) ≡ true → n ≡ count_in ws → n ≤ w → rest ≡ drop 1 ws
    → names_refusal not_due n 0 1 rest ≡ None → names ≡ take n rest → length names ≡ n → lines ≡ drop n rest → image_refusal w ws ≡ lines_refusal (serials_in names) 0 0 (length names + 1) lines
image_lines w n [] rest names lines l h c f r e t m d = absurd (omega arith)
image_lines w n (x ∷ ws) rest names lines l h c f r e t m d =
    let passed : names_refusal not_due (low_bits x) 0 1 ws ≡ None = rw (← c, ← r) e in
    passes (refuse_if (not (is_kind ImageHead x)) (not_due 0)) _ _ (unrefused (not (is_kind ImageHead x)) (not_due 0) (not_from_true (is_kind ImageHead x) h))
    (passes (refuse_if (ltb w (low_bits x)) (refusal 4 0 part.Kind)) _ _ (unrefused (ltb w (low_bits x)) (refusal 4 0 part.Kind) (le-ltb w (low_bits x) (omega arith)))
    (passes (names_refusal not_due (low_bits x) 0 1 ws) _ _ passed
    (last_check (lines_refusal (serials_in (take (low_bits x) ws)) 0 0 (low_bits x + 1) (drop (low_bits x) ws)) _ (rw (← c, ← r, m, ← t, ← d) refl))))

-- the lines of words, two by two
pub pairs_more : (ws : List ℕ) → 2 ≤ length ws → pairs_in ws ≡ line_in (get_or ws 0 0) (get_or ws 1 0) ∷ pairs_in (drop 2 ws)
pairs_more [] l = absurd (omega arith)
pairs_more (c ∷ []) l = absurd (omega arith)
pairs_more (c ∷ p ∷ ws) l = refl
