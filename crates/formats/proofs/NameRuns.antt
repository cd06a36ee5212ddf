-- A run of names, one after another.
use Rattle.std.proofs.Common.{◌≡◌, ℕ, zero, suc, ◌+◌, ◌-◌, ◌<◌, ◌≤◌, true, not, ltb, leb, List, [], ◌∷◌, length, get_or, take, drop, Some, None, refl, ap, ◌∙◌, sym, arith}
use Rattle.std.proofs.lemmas.List.{at_drop_more, at_drop_all}
use Rattle.std.proofs.lemmas.Bool.{and_from, lt-ltb, leb-false}
use Rattle.descent.specs.Order.{rising_from}
use Rattle.words.specs.declared.refusal.Refusal.{Refusal}
use Rattle.words.specs.declared.word.WordKind.TheVariants.{Name}
use Rattle.words.specs.Words.{low_bits, is_kind}
use Rattle.words.specs.Refusals.{first_of, refuse_if, serial_refusal}
use Rattle.formats.specs.Formats.{name_refusal, names_refusal, serials_in}
use Rattle.words.proofs.Parts.{was_kind}
use Rattle.words.proofs.Chain.{passes, each_passes, last_check, stops, not-refused}

module _ (due : ℕ → Refusal) (words : List ℕ) (count last i : ℕ) (more : i < count) where
  one_due : count - i ≡ suc (count - (i + 1))
  one_due = omega arith

  pub names_missing : length words ≤ i → names_refusal due (count - i) last (i + 1) (drop i words) ≡ Some (due (i + 1))
  names_missing l = ap (λ (n : ℕ). names_refusal due n last (i + 1) (drop i words)) one_due ∙ at_drop_all (names_refusal due (suc (count - (i + 1))) last (i + 1)) words i l

  module _ (within : i < length words) where
    names_next : names_refusal due (count - i) last (i + 1) (drop i words)
        ≡ first_of (name_refusal due last (i + 1) (get_or words i 0) ∷ names_refusal due (count - (i + 1)) (low_bits (get_or words i 0)) (i + 1 + 1) (drop (i + 1) words) ∷ [])
    names_next = ap (λ (n : ℕ). names_refusal due n last (i + 1) (drop i words)) one_due ∙ at_drop_more (names_refusal due (suc (count - (i + 1))) last (i + 1)) words i 0 within

    pub names_wrong : (r : Refusal) → name_refusal due last (i + 1) (get_or words i 0) ≡ Some r → names_refusal due (count - i) last (i + 1) (drop i words) ≡ Some r
    names_wrong r e = names_next ∙ stops (name_refusal due last (i + 1) (get_or words i 0)) _ r e

    pub names_right : (serial : ℕ) → name_refusal due last (i + 1) (get_or words i 0) ≡ None → serial ≡ low_bits (get_or words i 0)
        → names_refusal due (count - i) last (i + 1) (drop i words) ≡ names_refusal due (count - (i + 1)) serial (i + 1 + 1) (drop (i + 1) words)
    names_right serial e s =
        names_next ∙ passes (name_refusal due last (i + 1) (get_or words i 0)) _ _ e (last_check _ _ (ap (λ (x : ℕ). names_refusal due (count - (i + 1)) x (i + 1 + 1) (drop (i + 1) words)) (sym s)))

-- a name that passes, and those behind it
pub name_passed : (due : ℕ → Refusal) (n last i w : ℕ) (ws : List ℕ) → names_refusal due (suc n) last i (w ∷ ws) ≡ None → (is_kind Name w ≡ true) × (last < low_bits w) × (names_refusal due n (low_bits w) (i + 1) ws ≡ None)
name_passed due n last i w ws e =
    let p = each_passes (name_refusal due last i w ∷ names_refusal due n (low_bits w) (i + 1) ws ∷ []) e in
    let q = each_passes (refuse_if (not (is_kind Name w)) (due i) ∷ serial_refusal (low_bits w) i ∷ refuse_if (leb (low_bits w) last) (due i) ∷ []) p.0 in
    (was_kind Name w (due i) q.0, leb-false (low_bits w) last (not-refused (leb (low_bits w) last) (due i) q.1.1.0), p.1.0)

-- names that pass are there, and their serials rise
pub names_passed : (due : ℕ → Refusal) (n last i : ℕ) (ws : List ℕ) → names_refusal due n last i ws ≡ None → (n ≤ length ws) × (rising_from last (serials_in (take n ws)) ≡ true)
names_passed due zero last i ws e = (omega arith, refl)
names_passed due (suc n) last i [] e = let z : ◌≡◌ {A = ℕ} 0 1 = cc in absurd (omega arith)
names_passed due (suc n) last i (w ∷ ws) e =
    let p = name_passed due n last i w ws e in
    let rest = names_passed due n (low_bits w) (i + 1) ws p.2 in
    (omega (arith, rest.0), and_from (ltb last (low_bits w)) (rising_from (low_bits w) (serials_in (take n ws))) (lt-ltb last (low_bits w) p.1) rest.1)
