-- The bounds of packets, index by index, and where a number cuts them.
use Rattle.std.specs.Prelude.{◌≡◌, ℕ, suc, ◌+◌, ◌%◌, ◌<◌, ◌≤◌, Some, None, length, ◌≢◌, slice_index, slice_index_or}
use Rattle.std.proofs.Common.{sym, ap, ◌∙◌, subst, add-one, arith}
use Rattle.std.proofs.lemmas.Bool.{eq-eqb, ne_eqb}
use Rattle.packets.specs.declared.value.Packets.{Packets}
use Rattle.packets.specs.Bounds.{count_below}
use Rattle.packets.specs.Packets.{bounds_of, packets_have}
use Rattle.codes.specs.Sorts.{Next}
use Rattle.packets.specs.Parity.{odd, parity_count, inside-odd}
use Rattle.packets.specs.Rising.{Rises, Cut, cut, cut_here, cut-before, cut-after, rises_next, rises_top, rule_rises, rule_even}

pub rising : (v : Packets) → Rises 512 0 (bounds_of v)
rising v = rule_rises 512 (bounds_of v) v.rule

pub even_count : (v : Packets) → length (bounds_of v) % 2 ≡ 0
even_count v = rule_even 512 (bounds_of v) v.rule

-- the number of bounds that are not above a place decides
pub has_count : (v : Packets) (p k : ℕ) → k ≡ count_below (p + 1) (bounds_of v) → packets_have v p ≡ odd k
has_count v p k e =
    inside-odd 512 (bounds_of v) p v.rule ∙ parity_count 512 (bounds_of v) p (rising v)
    ∙ ap (λ (n : ℕ). odd (count_below n (bounds_of v))) (sym (add-one p)) ∙ ap odd (sym e)

-- the same from the two bounds beside the place
has_between : (v : Packets) (p k : ℕ) → k ≤ length v.row → ((j : ℕ) → suc j ≡ k → slice_index v.row j ≤ p) → (k < length v.row → p < slice_index v.row k) → packets_have v p ≡ odd k
has_between v p k h f g = has_count v p k (sym (cut_here 512 0 (p + 1) (bounds_of v) k (rising v) h (λ j e. omega (arith, f j e)) (λ l. omega (arith, g l))))

-- what a search for the place `from` tells of the places from there on
module _ (v : Packets) (from k : ℕ) (found_at : k ≡ count_below (from + 1) (bounds_of v)) where
  cut_at : Cut 512 (bounds_of v) k (from + 1)
  cut_at = subst (λ (i : ℕ). Cut 512 (bounds_of v) i (from + 1)) (sym found_at) (cut 512 0 (from + 1) (bounds_of v) (rising v))

  few : k ≤ length v.row
  few = cut_at.short

  passed : (j : ℕ) → suc j ≡ k → slice_index v.row j ≤ from
  passed j e = let low = cut-before 512 (from + 1) k j (bounds_of v) cut_at (omega arith) in omega arith

  -- up to the next bound all places are as this one
  alike : (p : ℕ) → from ≤ p → (k < length v.row → p < slice_index v.row k) → packets_have v p ≡ odd k
  alike p h g = has_between v p k few (λ j e. omega (arith, passed j e)) g

  pub next_here : from < 512 → k % 2 ≡ 1 → Next 512 (packets_have v) from (Some from)
  next_here h e = (omega arith, h, has_count v from k found_at ∙ eq-eqb (k % 2) 1 e, λ p a b. absurd (omega arith))

  pub next_packet : (k % 2 ≢ 1) → k < length v.row → Next 512 (packets_have v) from (Some (slice_index v.row k))
  next_packet e h =
      let q = slice_index_or v.row k 0 in
      let more : suc k < length v.row = omega (arith, even_count v) in
      let up = rises_next 512 0 (bounds_of v) k (rising v) (omega arith) in
      let top = rises_top 512 0 (bounds_of v) (suc k) (rising v) (omega arith) in
      let after = cut-after 512 (from + 1) k (bounds_of v) cut_at (omega arith) in
      let same : (j : ℕ) → suc j ≡ suc k → slice_index v.row j ≤ q =
      λ j s. let is : k ≡ j = omega arith in subst (λ (i : ℕ). slice_index v.row i ≤ q) is (omega arith) in (
        omega arith,
        omega arith,
        has_between v q (suc k) (omega arith) same (λ _. omega arith) ∙ eq-eqb (suc k % 2) 1 (omega arith),
        λ p a b. alike p a (λ _. b) ∙ ne_eqb (k % 2) 1 e,
      )

  pub next_none : length v.row ≤ k → Next 512 (packets_have v) from None
  next_none h p a b = alike p a (λ l. absurd (omega arith)) ∙ ne_eqb (k % 2) 1 (λ e. omega (arith, even_count v, few))
