-- Sets that share no place, and the places below covered ones, place by place.
use Rattle.std.proofs.Common.{◌≡◌, ℕ, zero, suc, ◌+◌, ◌<◌, Bool, true, false, not, ◌&&◌, ◌||◌, eqb, ltb, List, length, get_or, take, Some, None, Option, is_none, Decides, sym, refl, ap, ◌∙◌, ap₂, inl, inr, arith}
use mathlib.Core.Path.{fun_ext}
use Rattle.std.proofs.Math.Bool.{or-false}
use Rattle.std.proofs.lemmas.List.{get_or-map, take_more}
use Rattle.std.proofs.lemmas.List.Recursion.{or_push}
use Rattle.std.proofs.lemmas.Bool.{not-true, not_from_false, both_ways, cases_Bool, cases_lt, le-ltb}
use Rattle.std.proofs.lemmas.Bool.Decides.{Decides-below_and}
use Rattle.codes.specs.Sorts.{Sort, Agree, Next}
use Rattle.closing.specs.Tables.{sets_of, cell}
use Rattle.asking.specs.Decoding.{apart, covered_at, some_place, overlies, below_covered, chosen, uppermost_at}

-- the test is passed exactly by sets that share no place below w
pub apart_decides : (w : ℕ) (f g : ℕ → Bool) → Decides (apart w f g) ((p : ℕ) → p < w → (f p && g p) ≡ false)
apart_decides w f g =
    Decides-below_and (λ p. not (f p && g p)) (λ p. (f p && g p) ≡ false) (λ n. apart n f g)
    (λ p. (not-true (f p && g p), not_from_false (f p && g p))) refl (λ _. refl) w

pub apart-not : (w : ℕ) (f g : ℕ → Bool) (q : ℕ) → q < w → (f q && g q) ≡ true → apart w f g ≡ false
apart-not w f g q h e =
    elim (cases_Bool (apart w f g)) [
      | inl t ↦ absurd (both_ways (f q && g q) ((apart_decides w f g).0 t q h) e)
      | inr t ↦ t
    ]

-- so it tells whether the sets, met, have a place
pub apart_met : (w : ℕ) (f g met : ℕ → Bool) (r : Option ℕ) → Agree w met (λ p. f p && g p) → Next w met 0 r → is_none r ≡ apart w f g
apart_met w f g met None both none = sym ((apart_decides w f g).1 (λ p h. sym (both p h) ∙ none p (omega arith) h))
apart_met w f g met (Some q) both found = sym (apart-not w f g q found.1 (sym (both q found.1) ∙ found.2))

-- and looks at no place from w on
pub apart_alike : (w : ℕ) (f f' g g' : ℕ → Bool) → Agree w f f' → Agree w g g' → apart w f g ≡ apart w f' g'
apart_alike zero f f' g g' same alike = refl
apart_alike (suc w) f f' g g' same alike =
    let here : (f w && g w) ≡ (f' w && g' w) = ap₂ (λ a b. a && b) (same w (omega arith)) (alike w (omega arith)) in
    ap₂ (λ a b. not a && b) here
    (apart_alike w f f' g g' (λ p h. same p (omega arith)) (λ p h. alike p (omega arith)))

-- one place more
pub some_more : (test : ℕ → Bool) (qs : List ℕ) (i : ℕ) → i < length qs →
    some_place test (take (i + 1) qs) ≡ (some_place test (take i qs) || test (get_or qs i 0))
some_more test qs i lt = ap (some_place test) (take_more qs i 0 lt) ∙ or_push (some_place test) test refl (λ _ _. refl) (take i qs) (get_or qs i 0)

-- what a row of the table is read as
pub row_is : {S R : Type 0} (s : Sort S R) (table : List R) (q : ℕ) (row : R) → q < length table → row ≡ get_or table q row →
    cell (sets_of s table) q ≡ s.reads row
row_is s table q row inside is =
    get_or-map s.reads table q row (λ _. false) inside ∙ ap (λ r. s.reads r) (sym is)

module _ {S R : Type 0} (s : Sort S R) (table : List R) (outside : ℕ → Bool) (places : List ℕ) (i : ℕ) (row : R) (q : ℕ)
    (lt : i < length places) (here : get_or places i 0 ≡ q) (inside : q < length table) (is : row ≡ get_or table q row) where
  turn : (p : ℕ) → below_covered s.width (sets_of s table) outside (take (i + 1) places) p
      ≡ (below_covered s.width (sets_of s table) outside (take i places) p
      || (apart s.width (s.reads row) outside && (s.reads row p && not (eqb p q))))
  turn p =
      some_more (overlies s.width (sets_of s table) outside p) places i lt
      ∙ ap (λ j. below_covered s.width (sets_of s table) outside (take i places) p || overlies s.width (sets_of s table) outside p j) here
      ∙ ap (λ f. below_covered s.width (sets_of s table) outside (take i places) p || (apart s.width f outside && (f p && not (eqb p q))))
      (row_is s table q row inside is)

  -- a covered kind's row is joined, without its own place
  pub below_joined : apart s.width (s.reads row) outside ≡ true → (p : ℕ) →
      below_covered s.width (sets_of s table) outside (take (i + 1) places) p
      ≡ (below_covered s.width (sets_of s table) outside (take i places) p || (s.reads row p && not (eqb p q)))
  below_joined e p =
      turn p
      ∙ ap (λ b. below_covered s.width (sets_of s table) outside (take i places) p || (b && (s.reads row p && not (eqb p q)))) e

  pub below_left : apart s.width (s.reads row) outside ≡ false → (p : ℕ) →
      below_covered s.width (sets_of s table) outside (take (i + 1) places) p
      ≡ below_covered s.width (sets_of s table) outside (take i places) p
  below_left e p =
      turn p
      ∙ ap (λ b. below_covered s.width (sets_of s table) outside (take i places) p || (b && (s.reads row p && not (eqb p q)))) e
      ∙ or-false (below_covered s.width (sets_of s table) outside (take i places) p)

-- what is chosen by sets that are right below w is what is uppermost
pub chosen_alike : (w : ℕ) (rows : List (ℕ → Bool)) (out outside below : ℕ → Bool) (places : List ℕ) → Agree w out outside →
    Agree w below (below_covered w rows out places) → (p : ℕ) → chosen w rows out below p ≡ uppermost_at w rows outside places p
chosen_alike w rows out outside below places same lies p =
    ap₂ (λ a b. a && not b) (covers p)
    (elim (cases_lt p w) [
      | inl h ↦
          ap (λ b. ltb p w && b)
          (lies p h ∙ ap (λ test. some_place test places) (fun_ext (λ q. ap (λ b. b && (cell rows q p && not (eqb p q))) (covers q))))
      | inr h ↦ let late = le-ltb p w h in rw late refl
    ])
  where
    covers : (q : ℕ) → covered_at w rows out q ≡ covered_at w rows outside q
    covers q = apart_alike w (cell rows q) (cell rows q) out outside (λ _ _. refl) same
