-- What is uppermost by places is uppermost by lines.
use Rattle.std.proofs.Common.{◌≡◌, ℕ, suc, ◌<◌, Bool, true, false, cond, not, ◌&&◌, ◌||◌, eqb, List, [], ◌∷◌, map, length, get_or, Decides, filter, sym, refl, ap, ◌∙◌, ap₂, inl, inr, arith}
use Rattle.std.specs.List.{AllByRecursion as All}
use Rattle.std.proofs.ByRecursion.{All-from_get_or}
use Rattle.std.proofs.lemmas.List.{get_or-map, length-map}
use Rattle.std.proofs.lemmas.Bool.{both_ways, cases_Bool, cases_eq, eq-eqb, ne_eqb, lt-ltb, not-false}
use Rattle.std.proofs.lemmas.Bool.Decides.{same_from_decides, Decides-like}
use Rattle.descent.specs.declared.kind.Kind.{Kind}
use Rattle.descent.specs.declared.line.Line.{Line}
use Rattle.descent.specs.Lines.{serials_of, places_of, stands}
use Rattle.descent.specs.Descent.{descends}
use Rattle.descent.specs.Closure.{Placed}
use Rattle.descent.specs.Coverage.{Covered, covered, each_kind, uppermost}
use Rattle.descent.proofs.Descent.{descends_decided}
use Rattle.descent.proofs.Lines.{stands_at, stands_position, same_position, place_at}
use Rattle.descent.proofs.Coverage.{covered_decided}
use Rattle.closing.specs.Tables.{Filled, cell, sets_of}
use Rattle.codes.specs.Sorts.{Sort}
use Rattle.words.specs.declared.word.WordKind.TheVariants.{Name}
use Rattle.words.specs.Words.{word_of}
use Rattle.asking.specs.Decoding.{covered_at, some_place, overlies, below_covered, uppermost_at, names_of, decoded}
use Rattle.asking.proofs.Covering.{apart_decides}

-- some place passes exactly if not every kind fails
some_each : (t u : ℕ → Bool) (ks ps : List ℕ) → length ps ≡ length ks →
    ((a : ℕ) → a < length ks → t (get_or ps a 0) ≡ not (u (get_or ks a 0))) → some_place t ps ≡ not (each_kind u ks)
some_each t u [] [] paired h = refl
some_each t u [] (p ∷ ps) paired h = absurd (omega arith)
some_each t u (k ∷ ks) [] paired h = absurd (omega arith)
some_each t u (k ∷ ks) (p ∷ ps) paired h =
    ap₂ (λ a b. a || b) (h 0 (omega arith)) (some_each t u ks ps (omega arith) (λ a l. h (suc a) (omega arith))) ∙ both (u k) (each_kind u ks)
  where
    both : (x y : Bool) → (not x || not y) ≡ not (x && y)
    both x y = grind arith

-- the names of kinds whose places pass are the names of those whose serials pass
names_kept : (t u : ℕ → Bool) (kinds : List Kind) → All (λ k. t k.place ≡ u k.serial) kinds →
    names_of t kinds ≡ map (word_of Name) (filter u (serials_of kinds))
names_kept t u [] h = refl
names_kept t u (k ∷ kinds) h =
    let rest = filter (λ k. t k.place) kinds in
    let later = filter u (serials_of kinds) in
    let below = names_kept t u kinds h.1 in
    ap (λ b. map (λ k. word_of Name k.serial) (cond b (k ∷ rest) rest)) h.0
    ∙ (elim (u k.serial) as (λ b. map (λ k. word_of Name k.serial) (cond b (k ∷ rest) rest) ≡ map (word_of Name) (cond b (k.serial ∷ later) later)) [
      | true ↦ ap (λ ys. word_of Name k.serial ∷ ys) below
      | false ↦ below
    ])

module _ (w : ℕ) (ks ps : List ℕ) (ls : List Line) (rows : List (ℕ → Bool)) (placed : Placed w ks ps ls) (filled : Filled w ks ps ls rows)
    (f set : ℕ → Bool) (sets : (a : ℕ) → a < length ks → f (get_or ps a 0) ≡ set (get_or ks a 0)) where
  -- every kind whose place is in the row is in the set
  abbrev RowInside : ℕ → Type 0
  RowInside a = (b : ℕ) → b < length ks → cell rows (get_or ps a 0) (get_or ps b 0) ≡ true → f (get_or ps b 0) ≡ true

  row_covers : (a : ℕ) → a < length ks → Decides (covered_at w rows (λ p. not (f p)) (get_or ps a 0)) (RowInside a)
  row_covers a h =
      Decides-like (covered_at w rows (λ p. not (f p)) (get_or ps a 0)) there back
      (apart_decides w (cell rows (get_or ps a 0)) (λ p. not (f p)))
    where
      there : ((p : ℕ) → p < w → (cell rows (get_or ps a 0) p && not (f p)) ≡ false) → RowInside a
      there none b l e =
          let q = none (get_or ps b 0) (placed.below b l) in
          not-false (f (get_or ps b 0)) (sym (ap (λ c. c && not (f (get_or ps b 0))) e) ∙ q)

      back : RowInside a → (p : ℕ) → p < w → (cell rows (get_or ps a 0) p && not (f p)) ≡ false
      back all p l =
          elim (cases_Bool (cell rows (get_or ps a 0) p)) [
            | inr lacks ↦ rw lacks refl
            | inl has ↦
                elim (cases_Bool (stands p ps)) [
                  | inl st ↦
                      let q = stands_position p ps st in
                      let b : q.0 < length ks = omega (arith, q.1, placed.paired) in
                      let here = all q.0 b (ap (λ j. cell rows (get_or ps a 0) j) q.2 ∙ has) in
                      let inside : f p ≡ true = ap f (sym q.2) ∙ here in
                      rw (has, inside) refl
                  | inr out ↦ absurd (both_ways (cell rows (get_or ps a 0) p) (filled.only (get_or ps a 0) p (placed.below a h) l (inr out)) has)
                ]
          ]

  kind_covers : (a : ℕ) → a < length ks → Decides (covered ks ls set (get_or ks a 0)) (RowInside a)
  kind_covers a h = Decides-like (covered ks ls set (get_or ks a 0)) there back (covered_decided ks ls set (get_or ks a 0))
    where
      there : Covered ks ls set (get_or ks a 0) → RowInside a
      there all b l e =
          sets b l ∙ all (get_or ks b 0) (stands_at ks b l) ((descends_decided ls (get_or ks b 0) (get_or ks a 0)).0 (sym (filled.descent a b h l) ∙ e))

      back : RowInside a → Covered ks ls set (get_or ks a 0)
      back all d st below =
          let q = stands_position d ks st in
          let under : descends ls (get_or ks q.0 0) (get_or ks a 0) ≡ true =
          ap (λ x. descends ls x (get_or ks a 0)) q.2 ∙ (descends_decided ls d (get_or ks a 0)).1 below in
          ap set (sym q.2) ∙ sym (sets q.0 q.1) ∙ all q.0 q.1 (filled.descent a q.0 h q.1 ∙ under)

  covered_same : (a : ℕ) → a < length ks → covered_at w rows (λ p. not (f p)) (get_or ps a 0) ≡ covered ks ls set (get_or ks a 0)
  covered_same a h = same_from_decides (covered_at w rows (λ p. not (f p)) (get_or ps a 0)) (covered ks ls set (get_or ks a 0)) (row_covers a h) (kind_covers a h)

  -- two kinds have one place exactly if they are one kind
  same_place : (a b : ℕ) → a < length ks → b < length ks → eqb (get_or ps a 0) (get_or ps b 0) ≡ eqb (get_or ks b 0) (get_or ks a 0)
  same_place a b h l =
      elim (cases_eq a b) [
        | inl e ↦
            let at = eq-eqb (get_or ps a 0) (get_or ps b 0) (ap (λ i. get_or ps i 0) e) in
            let kind = eq-eqb (get_or ks b 0) (get_or ks a 0) (ap (λ i. get_or ks i 0) (sym e)) in
            at ∙ sym kind
        | inr ne ↦
            let long = placed.paired in
            let at = ne_eqb (get_or ps a 0) (get_or ps b 0) (λ e. ne (same_position ps placed.apart a b (omega arith) (omega arith) e)) in
            let kind = ne_eqb (get_or ks b 0) (get_or ks a 0) (λ e. ne (sym (same_position ks placed.different b a l h e))) in
            at ∙ sym kind
      ]

  pub uppermost_same : (a : ℕ) → a < length ks → uppermost_at w rows (λ p. not (f p)) ps (get_or ps a 0) ≡ uppermost ks ls set (get_or ks a 0)
  uppermost_same a h =
      let k = get_or ks a 0 in
      let p = get_or ps a 0 in
      let low = lt-ltb p w (placed.below a h) in
      let here = stands_at ks a h in
      let none = some_each (overlies w rows (λ q. not (f q)) p) (λ m. not (covered ks ls set m && descends ls k m) || eqb m k) ks ps placed.paired
      (λ b l. over b l) in
      ap₂ (λ x y. x && not (y && below_covered w rows (λ q. not (f q)) ps p)) (covered_same a h) low
      ∙ ap (λ y. covered ks ls set k && not y) none
      ∙ twice (covered ks ls set k) (each_kind (λ m. not (covered ks ls set m && descends ls k m) || eqb m k) ks)
      ∙ ap (λ y. (y && covered ks ls set k) && each_kind (λ m. not (covered ks ls set m && descends ls k m) || eqb m k) ks) (sym here)
    where
      twice : (x y : Bool) → (x && not (not y)) ≡ ((true && x) && y)
      twice x y = grind arith

      turn : (x y z : Bool) → (x && (y && not z)) ≡ not (not (x && y) || z)
      turn x y z = grind arith

      over : (b : ℕ) → b < length ks →
          overlies w rows (λ q. not (f q)) (get_or ps a 0) (get_or ps b 0)
          ≡ not (not (covered ks ls set (get_or ks b 0) && descends ls (get_or ks a 0) (get_or ks b 0)) || eqb (get_or ks b 0) (get_or ks a 0))
      over b l =
          ap (λ x. x && (cell rows (get_or ps b 0) (get_or ps a 0) && not (eqb (get_or ps a 0) (get_or ps b 0)))) (covered_same b l)
          ∙ ap₂ (λ y z. covered ks ls set (get_or ks b 0) && (y && not z)) (filled.descent b a l h) (same_place a b h l)
          ∙ turn (covered ks ls set (get_or ks b 0)) (descends ls (get_or ks a 0) (get_or ks b 0)) (eqb (get_or ks b 0) (get_or ks a 0))

-- the set decodes to the names of the uppermost kinds
pub decoded_names : {S R : Type 0} (s : Sort S R) (ks ps : List ℕ) (ls : List Line) (kinds : List Kind) (table : List R) (row : R) (set : ℕ → Bool) →
    serials_of kinds ≡ ks → places_of kinds ≡ ps → Placed s.width ks ps ls → Filled s.width ks ps ls (sets_of s table) →
    ((a : ℕ) → a < length ks → s.reads row (get_or ps a 0) ≡ set (get_or ks a 0)) →
    decoded s kinds table row ≡ map (word_of Name) (filter (uppermost ks ls set) ks)
decoded_names s ks ps ls kinds table row set serials places placed filled sets =
    ap (λ qs. names_of (uppermost_at s.width (sets_of s table) (λ p. not (s.reads row p)) qs) kinds) places
    ∙ names_kept (uppermost_at s.width (sets_of s table) (λ p. not (s.reads row p)) ps) (uppermost ks ls set) kinds
    (All-from_get_or _ kinds (record { serial = 0; place = 0 }) (λ a h.
    let none : Kind = record { serial = 0; place = 0 } in
    let within : a < length ks = omega (arith, h, length-map kinds (λ k. k.serial), ap length serials) in
    let place_is : (get_or kinds a none).place ≡ get_or ps a 0 = sym (place_at kinds a none h).1 ∙ ap (λ xs. get_or xs a 0) places in
    let serial_is : (get_or kinds a none).serial ≡ get_or ks a 0 = sym (get_or-map (λ k. k.serial) kinds a none 0 h) ∙ ap (λ xs. get_or xs a 0) serials in
    ap (uppermost_at s.width (sets_of s table) (λ p. not (s.reads row p)) ps) place_is
    ∙ uppermost_same s.width ks ps ls (sets_of s table) placed filled (s.reads row) set sets a within
    ∙ ap (uppermost ks ls set) (sym serial_is)))
    ∙ ap (λ xs. map (word_of Name) (filter (uppermost ks ls set) xs)) serials
