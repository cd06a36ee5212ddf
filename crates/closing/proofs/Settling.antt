-- What a closing leaves in its lists: the ring that its walk found, and parts of lists that were lent and given back.
use Rattle.std.proofs.Common.{◌≡◌, ℕ, suc, ◌+◌, ◌-◌, ◌<◌, ◌≤◌, true, false, eqb, List, [], ◌∷◌, ◌++◌, map, length, get_or, take, drop, replicate, position, Some, None, Option, refl, sym, ap, ◌∙◌, inl, inr, arith}
use Rattle.std.specs.List.{position_from}
use Rattle.std.specs.Option.{is_some, IsSome}
use Rattle.std.proofs.lemmas.Iterator.Adapters.{position_from-zero}
use Rattle.std.proofs.lemmas.List.Quantifiers.{position-Some}
use Rattle.std.proofs.lemmas.List.{length-take-le, length-map, length-drop, get_or-drop, drop-map, map-append, get_or_append_left, drop-take, take-append-le}
use Rattle.std.proofs.lemmas.Slice.{drop-append-drop}
use Rattle.std.proofs.lemmas.Bool.{false≢true, eqb-true, cases_Bool}
use Rattle.words.specs.declared.word.WordKind.TheVariants.{RingHead, Name}
use Rattle.words.specs.declared.refusal.Part.TheVariants as part
use Rattle.words.specs.Words.{word_of}
use Rattle.words.specs.Refusals.{refusal}
use Rattle.codes.specs.Sorts.{Sort}
use Rattle.descent.specs.declared.standing.Standing.{Standing}
use Rattle.descent.specs.Lines.{serials_of, places_of, stands}
use Rattle.descent.specs.Rings.{ringed}
use Rattle.descent.proofs.Rings.{ring_shows}
use Rattle.closing.specs.Direct.{place_of, serial_at}
use Rattle.closing.specs.Marks.{Looped, Round}
use Rattle.closing.specs.Tables.{sets_of, cell, Empty, Filled}
use Rattle.closing.specs.Closing.{Lent, lent, lent_refusal, closing_refusal, Kept, Told, Closed, Ringed}
use Rattle.closing.proofs.Direct.{serial_of_place, standing_placed}

-- a number that the list has is found in it
found_from : (x i : ℕ) (ys : List ℕ) → stands x ys ≡ true → is_some (position_from (λ p. eqb p x) i ys) ≡ true
found_from x i [] h = absurd (false≢true h)
found_from x i (y ∷ ys) h =
    elim (cases_Bool (eqb y x)) [ inl e ↦ rw e refl | inr e ↦ rw e (found_from x (i + 1) ys (rw e at h)) ]

-- the first w rows, of a table that is longer
module _ {S R : Type 0} (s : Sort S R) (w : ℕ) (rows rest : List R) (long : length rows ≡ w) where
  cell_front : (i j : ℕ) → i < w → cell (sets_of s (rows ++ rest)) i j ≡ cell (sets_of s rows) i j
  cell_front i j lt =
      let inside : i < length (sets_of s rows) = simp length-map (omega arith) in
      ap (λ xs. cell xs i j) (map-append s.reads rows rest)
      ∙ ap (λ f. f j) (get_or_append_left (sets_of s rows) (sets_of s rest) (λ _. false) i inside)

  empty_front : w ≤ s.width → Empty s.width (sets_of s rows) → Empty w (sets_of s (rows ++ rest))
  empty_front le none i j hi hj = cell_front i j hi ∙ none i j (omega arith) (omega arith)

  filled_front : (st : Standing) → st.width ≡ w → Filled w (serials_of st.kinds.now) (places_of st.kinds.now) st.lines.now (sets_of s rows) →
      Filled w (serials_of st.kinds.now) (places_of st.kinds.now) st.lines.now (sets_of s (rows ++ rest))
  filled_front st e f =
      let places = places_of st.kinds.now in
      record {
        descent = λ a b ha hb.
            let low = (standing_placed st).below a ha in
            cell_front (get_or places a 0) (get_or places b 0) (omega arith) ∙ f.descent a b ha hb;
        only = λ i j hi hj out. cell_front i j hi ∙ f.only i j hi hj out;
      }

-- lists whose first w elements were lent and given back
kept_beyond : {R : Type 0} (w : ℕ) (old : Lent R) (rows : List R) (marks walk ring : List ℕ) →
    length rows ≡ w → marks ≡ replicate w 0 → w ≤ length old.walk → length walk ≡ length (take w old.walk) →
    Kept w old (lent (rows ++ drop w old.table) (marks ++ drop w old.marks) (walk ++ drop w old.walk) ring)
kept_beyond w old rows marks walk ring long zeros enough steps = record {
  rows = drop-append-drop w old.table rows w (omega arith) long;
  zeros = ap (λ xs. xs ++ drop w old.marks) zeros;
  steps = drop-append-drop w old.walk walk w (omega arith) (steps ∙ length-take-le w old.walk enough);
}

module _ (st : Standing) where
  -- the place that a walk met twice is found among those that it met
  pub spotted : {met : List ℕ} {at : ℕ} {r : Option ℕ} → r ≡ position (λ p. eqb p at) met → Looped st.kinds.now st.lines.now met at → IsSome r
  spotted {met = met} {at = at} is loop = ap is_some is ∙ ap is_some (position_from-zero (λ p. eqb p at) met) ∙ found_from at 0 met loop.again

  -- and from there on the walk goes round
  pub goes_round : {met : List ℕ} {at start : ℕ} {r : Option ℕ} → r ≡ position (λ p. eqb p at) met → r ≡ Some start →
      Looped st.kinds.now st.lines.now met at → (start < length met) × Round st.kinds.now st.lines.now (drop start met)
  goes_round {met = met} {at = at} {start = start} is here loop =
      let first = position-Some (λ p. eqb p at) met start 0 (sym is ∙ here) in
      let count = ap length loop.places ∙ length-map loop.trail (place_of st.kinds.now) in (
        first.0,
        record {
          trail = drop start loop.trail;
          standing = λ i lt.
              let beyond = length-drop start loop.trail in
              rw (get_or-drop start loop.trail i 0) (loop.standing (start + i) (omega arith));
          met = ap (drop start) loop.places ∙ drop-map (place_of st.kinds.now) start loop.trail;
          ring = loop.ring start first.0 (eqb-true (get_or met start 0) at first.1);
        },
      )

  pub round_shows : {places : List ℕ} → Round st.kinds.now st.lines.now places → ringed st.lines.now ≡ true
  round_shows r = ring_shows st.lines.now r.trail r.ring

  back_again : (f : ℕ → ℕ) (xs : List ℕ) → ((i : ℕ) → i < length xs → stands (get_or xs i 0) (serials_of st.kinds.now) ≡ true) →
      map (λ p. f (serial_at st.kinds.now p)) (map (place_of st.kinds.now) xs) ≡ map f xs
  back_again f [] each = refl
  back_again f (x ∷ xs) each =
      let here = ap f (serial_of_place st x (each 0 (omega arith))) in
      let rest = back_again f xs (λ i h. each (suc i) (omega arith)) in
      cc

  -- a part of the walk that goes round, as the words of a ring
  pub round_told : (walk rest : List ℕ) {old new : List ℕ} {a n : ℕ} → a ≤ n → n ≤ length walk →
      Round st.kinds.now st.lines.now (drop a (take n walk)) →
      (let ps = take (n - a) (drop a (walk ++ rest)) in
      new ≡ (word_of RingHead (length ps) ∷ map (λ p. word_of Name (serial_at st.kinds.now p)) ps) ++ drop (length ps + 1) old) →
      Told st.lines.now old new
  round_told walk rest {old = old} {a = a} {n = n} le long r words =
      let ks = st.kinds.now in
      let ps = take (n - a) (drop a (walk ++ rest)) in
      let end : a + (n - a) ≡ n = omega arith in
      let part : ps ≡ drop a (take n walk) =
      sym (drop-take a (n - a) (walk ++ rest)) ∙ ap (λ k. drop a (take k (walk ++ rest))) end ∙ ap (drop a) (take-append-le n walk rest long) in
      let f : ℕ → ℕ = λ p. word_of Name (serial_at ks p) in
      let same : ps ≡ map (place_of ks) r.trail = part ∙ r.met in
      let count : length ps ≡ length r.trail = ap length same ∙ length-map r.trail (place_of ks) in
      let names : map f ps ≡ map (word_of Name) r.trail = ap (map f) same ∙ back_again (word_of Name) r.trail r.standing in
      record {
        kinds = r.trail;
        ring = r.ring;
        words = words
            ∙ ap (λ k. (word_of RingHead k ∷ map f ps) ++ drop (k + 1) old) count
            ∙ ap (λ xs. (word_of RingHead (length r.trail) ∷ xs) ++ drop (length r.trail + 1) old) names;
      }

-- what an accepted closing leaves
pub closed_left : {S R : Type 0} (s : Sort S R) (st : Standing) (old : Lent R) (rows : List R) (marks walk : List ℕ) →
    length rows ≡ st.width → marks ≡ replicate st.width 0 → st.width ≤ length old.walk → length walk ≡ length (take st.width old.walk) →
    Filled st.width (serials_of st.kinds.now) (places_of st.kinds.now) st.lines.now (sets_of s rows) →
    Closed s st.width (serials_of st.kinds.now) (places_of st.kinds.now) st.lines.now old
    (lent (rows ++ drop st.width old.table) (marks ++ drop st.width old.marks) (walk ++ drop st.width old.walk) old.ring)
closed_left s st old rows marks walk long zeros room steps filled = record {
  kept = kept_beyond st.width old rows marks walk old.ring long zeros room steps;
  filled = filled_front s st.width rows (drop st.width old.table) long st refl filled;
  untold = refl;
}

-- what a closing leaves that is refused for a ring
pub ringed_left : {S R : Type 0} (s : Sort S R) (st : Standing) (old : Lent R) (rows : List R) (marks walk ring : List ℕ) →
    st.width ≤ s.width → length rows ≡ st.width → marks ≡ replicate st.width 0 →
    st.width ≤ length old.walk → length walk ≡ length (take st.width old.walk) →
    Empty s.width (sets_of s rows) → Told st.lines.now old.ring ring →
    Ringed s st.width st.lines.now old
    (lent (rows ++ drop st.width old.table) (marks ++ drop st.width old.marks) (walk ++ drop st.width old.walk) ring)
ringed_left s st old rows marks walk ring enough long zeros room steps none told = record {
  kept = kept_beyond st.width old rows marks walk ring long zeros room steps;
  empty = empty_front s st.width rows (drop st.width old.table) long enough none;
  told = told;
}

-- lists that are long enough, and a ring: the closing is refused for it
pub ring_refused : {R : Type 0} (w places : ℕ) (st : Standing) (l : Lent R) → lent_refusal w places l ≡ None → ringed st.lines.now ≡ true →
    closing_refusal w places st.lines.now l ≡ Some (refusal 11 0 part.Closing)
ring_refused w places st l enough round = rw (enough, round) refl
