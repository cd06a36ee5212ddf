-- The closed table, and what it tells of lines.
use Rattle.std.proofs.Common.{◌≡◌, ℕ, suc, ◌+◌, ◌-◌, ◌*◌, ◌^◌, ◌<◌, ◌≤◌, Bool, true, false, List, [], ◌∷◌, map, length, get_or, take, drop, refl, ap, ◌∙◌, inl, inr, arith}
use Rattle.std.proofs.lemmas.List.{get_or-map, length-map, take_rest, length-drop, get_or-drop}
use Rattle.std.proofs.lemmas.Bool.{or_from, cases_lt, both_ways}
use Rattle.descent.specs.declared.line.Line.{Line}
use Rattle.descent.specs.declared.standing.Standing.{Standing}
use Rattle.descent.specs.Lines.{serials_of, places_of, stands}
use Rattle.descent.specs.Descent.{descends, LeadsUp, one, more}
use Rattle.descent.specs.Rings.{some_round}
use Rattle.descent.specs.Order.{line_key}
use Rattle.descent.specs.Closure.{closure}
use Rattle.descent.proofs.Lines.{line_position}
use Rattle.descent.proofs.Descent.{descends_decided, leads_first}
use Rattle.descent.proofs.Proper.{rising_upto, joining-line}
use Rattle.descent.proofs.Rows.{stands-below}
use Rattle.descent.proofs.Closure.{closure_agrees, closure-descends, closure_only_places}
use Rattle.search.specs.Order.{Cut}
use Rattle.closing.specs.Tables.{cell, Cells, Filled}
use Rattle.closing.specs.Direct.{place_of, direct}
use Rattle.closing.proofs.Direct.{line_at, standing_placed, stands-place, line_ends, direct_right}

-- no line of the list has a parent that descends from its child
pub round_none : (ls rest : List Line) →
    ((m : ℕ) → m < length rest → descends ls (line_at rest m).parent (line_at rest m).child ≡ false) → some_round ls rest ≡ false
round_none ls [] out = refl
round_none ls (l ∷ rest) out =
    or_from (descends ls l.parent l.child) (some_round ls rest) (out 0 (omega arith))
    (round_none ls rest (λ m h. out (suc m) (omega arith)))

module _ (st : Standing) where
  -- a table that is filled and then closed
  pub closed_filled : (filled closed : List (ℕ → Bool)) →
      Cells st.width filled (direct st.kinds.now st.lines.now) →
      Cells st.width closed (closure st.width (cell filled)) →
      Filled st.width (serials_of st.kinds.now) (places_of st.kinds.now) st.lines.now closed
  closed_filled filled closed before after =
      let w = st.width in
      let kinds = serials_of st.kinds.now in
      let places = places_of st.kinds.now in
      let ls = st.lines.now in
      let truth = direct st.kinds.now ls in
      let p = standing_placed st in
      let same : (i j : ℕ) → i < w → j < w → cell closed i j ≡ closure w truth i j =
      λ i j hi hj. after i j hi hj ∙ closure_agrees w (cell filled) truth before w (omega arith) i j hi hj in
      record {
        descent = λ a b ha hb.
            same (get_or places a 0) (get_or places b 0) (p.below a ha) (p.below b hb)
            ∙ closure-descends w kinds places ls truth p (direct_right st) a b ha hb;
        only = λ i j hi hj out. same i j hi hj ∙ closure_only_places w kinds places ls truth p (direct_right st) i j hi hj out;
      }

  -- the cell of two standing kinds, by their serials
  pub filled_at : (rows : List (ℕ → Bool)) →
      Filled st.width (serials_of st.kinds.now) (places_of st.kinds.now) st.lines.now rows →
      (c p : ℕ) → stands c (serials_of st.kinds.now) ≡ true → stands p (serials_of st.kinds.now) ≡ true →
      cell rows (place_of st.kinds.now c) (place_of st.kinds.now p) ≡ descends st.lines.now p c
  filled_at rows f c p hc hp =
      let x = stands-place st c hc in
      let y = stands-place st p hp in
      rw (x.3, y.3) (f.descent x.0 y.0 x.1 y.1) ∙ ap (λ k. descends st.lines.now k (get_or (serials_of st.kinds.now) x.0 0)) y.2 ∙ ap (λ k. descends st.lines.now p k) x.2

  -- serials have 28 bits
  pub serial_low : (x : ℕ) → stands x (serials_of st.kinds.now) ≡ true → x < 2 ^ 28
  serial_low x h = stands-below (2 ^ 28) (serials_of st.kinds.now) x st.serials h

  -- how many lines there are from `first` on
  pub rest_size : (first : ℕ) → length (take (length st.lines.now - first) (drop first st.lines.now)) ≡ length st.lines.now - first
  rest_size first = ap length (take_rest st.lines.now first) ∙ length-drop first st.lines.now

  -- the line at an index of the lines from `first` on
  pub rest_at : (first i : ℕ) → first ≤ length st.lines.now → i < length (take (length st.lines.now - first) (drop first st.lines.now)) →
      (first + i < length st.lines.now)
      × (get_or (take (length st.lines.now - first) (drop first st.lines.now)) i (record { child = 0; parent = 0 }) ≡ line_at st.lines.now (first + i))
  rest_at first i within lt =
      let ls = st.lines.now in
      let size = rest_size first in
      (omega arith, rw (take_rest ls first) (get_or-drop first ls i (record { child = 0; parent = 0 })))

  -- what another leads up to stands
  pub led_stands : {k m : ℕ} → LeadsUp st.lines.now k m → stands m (serials_of st.kinds.now) ≡ true
  led_stands (one h) = (joining-line (serials_of st.kinds.now) st.lines.now st.joins _ _ h).1
  led_stands (more h u) = led_stands u

  -- the key of a line, as a sum that arithmetic sees
  key-at : (n : ℕ) → n < length st.lines.now →
      (get_or (map line_key st.lines.now) n 0 ≡ (line_at st.lines.now n).child * 2 ^ 32 + (line_at st.lines.now n).parent)
      × ((line_at st.lines.now n).parent < 2 ^ 32)
  key-at n lt =
      let low = serial_low (line_at st.lines.now n).parent (line_ends st n lt).1 in
      (get_or-map line_key st.lines.now n (record { child = 0; parent = 0 }) 0 lt, omega arith)

  -- a kind that leads up does so by one of its lines; these stand together, from the cut on
  module _ (kind top first : ℕ) (up : LeadsUp st.lines.now kind top)
      (cut : Cut (map line_key st.lines.now) (line_key (record { child = kind; parent = 0 })) first) where
    pub leading : (n : ℕ) × (first ≤ n) × (n < length st.lines.now) × ((line_at st.lines.now n).child ≡ kind)
        × (descends st.lines.now (line_at st.lines.now n).parent top ≡ true)
    leading =
        let ls = st.lines.now in
        let f = leads_first up in
        let q = line_position kind f.0 ls (record { child = 0; parent = 0 }) f.1 in
        let key = key-at q.0 q.1 in
        let late : first ≤ q.0 = elim (cases_lt q.0 first) [
          | inl lt ↦ let low = cut.before q.0 lt in absurd (omega (arith, key.0, q.2))
          | inr le ↦ le
        ] in
        (q.0, late, q.1, q.2, rw q.3 ((descends_decided ls f.0 top).1 f.2))

    -- where no line before it leads on, a line from the cut on is the kind's
    pub same_child : (n : ℕ) → first ≤ n → n < length st.lines.now →
        ((m : ℕ) → first ≤ m → m < n → descends st.lines.now (line_at st.lines.now m).parent top ≡ false) → (line_at st.lines.now n).child ≡ kind
    same_child n le lt none =
        let ls = st.lines.now in
        let q = leading in
        elim (cases_lt q.0 n) [
          | inl before ↦ absurd (both_ways (descends ls (line_at ls q.0).parent top) (none q.0 q.1 before) q.4)
          | inr after ↦
              let here = key-at n lt in
              let there = key-at q.0 q.2 in
              let long = length-map ls line_key in
              let low = cut.after n le (omega arith) in
              let high = rising_upto 0 (map line_key ls) st.ordered n q.0 after (omega (arith, q.2)) in
              omega (arith, here.0, here.1, there.0, there.1, q.3)
        ]
