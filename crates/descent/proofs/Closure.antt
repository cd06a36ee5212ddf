-- The closed table has exactly the descents, and each step can be done in place.
use Rattle.std.proofs.Common.{◌≡◌, ℕ, zero, suc, ◌<◌, ◌≤◌, Bool, true, false, ◌&&◌, ◌||◌, ◌⊎◌, List, length, get_or, sym, refl, ap, ◌∙◌, inl, inr, arith}
use Rattle.std.proofs.lemmas.Bool.{both_ways, or_cases, or_left, or_right, and_parts, and_from, cases_Bool, cases_eq}
use Rattle.std.proofs.lemmas.Bool.Decides.{same_from_decides}
use Rattle.descent.specs.declared.line.Line.{Line}
use Rattle.descent.specs.Lines.{has_line, stands}
use Rattle.descent.specs.Descent.{Descends, self, up, descends}
use Rattle.descent.specs.Closure.{closure, Placed, JustBelow, Direct, ClosureRight, ClosureOnlyPlaces}
use Rattle.descent.proofs.Lines.{stands_at, stands_position, same_position}
use Rattle.descent.proofs.Descent.{descends_refl, descends_trans, descends_decided}

absorb_right : (x y : Bool) → (x || (x && y)) ≡ x
absorb_right true y = refl
absorb_right false y = refl

absorb_left : (x y : Bool) → (x || (y && x)) ≡ x
absorb_left true y = refl
absorb_left false true = refl
absorb_left false false = refl

-- step b leaves column b as it is
pub closure_column : (b : ℕ) (r : ℕ → ℕ → Bool) (i : ℕ) → closure (suc b) r i b ≡ closure b r i b
closure_column b r i = absorb_right (closure b r i b) (closure b r b b)

-- and row b
pub closure-row : (b : ℕ) (r : ℕ → ℕ → Bool) (j : ℕ) → closure (suc b) r b j ≡ closure b r b j
closure-row b r j = absorb_left (closure b r b j) (closure b r b b)

-- the closure looks at no cell outside the table
pub closure_agrees : (w : ℕ) (q r : ℕ → ℕ → Bool) → ((i j : ℕ) → i < w → j < w → q i j ≡ r i j) →
    (b : ℕ) → b ≤ w → (i j : ℕ) → i < w → j < w → closure b q i j ≡ closure b r i j
closure_agrees w q r same zero fits i j hi hj = same i j hi hj
closure_agrees w q r same (suc b) fits i j hi hj =
    let cell = closure_agrees w q r same b (omega arith) i j hi hj in
    let column = closure_agrees w q r same b (omega arith) i b hi (omega arith) in
    let row = closure_agrees w q r same b (omega arith) b j (omega arith) hj in
    cc

-- a step takes nothing away
pub closure_keeps : (b : ℕ) (r : ℕ → ℕ → Bool) (i j : ℕ) → r i j ≡ true → closure b r i j ≡ true
closure_keeps zero r i j h = h
closure_keeps (suc b) r i j h =
    or_left (closure b r i j) (closure b r i b && closure b r b j) (closure_keeps b r i j h)

-- what a step adds
pub closure_step : (b : ℕ) (r : ℕ → ℕ → Bool) (i j : ℕ) → closure (suc b) r i j ≡ true →
    (closure b r i j ≡ true) ⊎ ((closure b r i b ≡ true) × (closure b r b j ≡ true))
closure_step b r i j h =
    elim (or_cases (closure b r i j) (closure b r i b && closure b r b j) h) [
      | inl e ↦ inl e
      | inr e ↦ inr (and_parts (closure b r i b) (closure b r b j) e)
    ]

through : (b : ℕ) (r : ℕ → ℕ → Bool) (i j : ℕ) → closure b r i b ≡ true → closure b r b j ≡ true → closure (suc b) r i j ≡ true
through b r i j h g =
    or_right (closure b r i j) (closure b r i b && closure b r b j) (and_from (closure b r i b) (closure b r b j) h g)

-- after the steps below b, what meets at a place below b is joined
pub closure_trans : (b : ℕ) (r : ℕ → ℕ → Bool) (i m j : ℕ) → m < b →
    closure b r i m ≡ true → closure b r m j ≡ true → closure b r i j ≡ true
closure_trans zero r i m j lt h g = absurd (omega arith)
closure_trans (suc b) r i m j lt h g = go (cases_eq m b) (closure_step b r i m h) (closure_step b r m j g) (closure_trans b r)
  where
    Step : ℕ → ℕ → Type 0
    Step x y = (closure b r x y ≡ true) ⊎ ((closure b r x b ≡ true) × (closure b r b y ≡ true))

    go : (m ≡ b) ⊎ (m ≡ b → ⊥) → Step i m → Step m j →
        ((x y z : ℕ) → y < b → closure b r x y ≡ true → closure b r y z ≡ true → closure b r x z ≡ true) →
        closure (suc b) r i j ≡ true
    go (inl e) s t join =
        through b r i j (sym (closure_column b r i) ∙ (rw e at h)) (sym (closure-row b r j) ∙ (rw e at g))
    go (inr ne) (inl s) (inl t) join =
        or_left (closure b r i j) (closure b r i b && closure b r b j) (join i m j (omega arith) s t)
    go (inr ne) (inl s) (inr t) join = through b r i j (join i m b (omega arith) s t.0) t.1
    go (inr ne) (inr s) (inl t) join = through b r i j s.0 (join b m j (omega arith) s.1 t)
    go (inr ne) (inr s) (inr t) join = through b r i j s.0 t.1

-- the kind at place j descends from the kind at place i
pub record Below (kinds places : List ℕ) (ls : List Line) (i j : ℕ) : Type 0 where
  pub upper : ℕ
  pub lower : ℕ
  pub upper_stands : upper < length kinds
  pub lower_stands : lower < length kinds
  pub upper_place : get_or places upper 0 ≡ i
  pub lower_place : get_or places lower 0 ≡ j
  pub descent : Descends ls (get_or kinds lower 0) (get_or kinds upper 0)

module _ (w : ℕ) (kinds places : List ℕ) (ls : List Line) (r : ℕ → ℕ → Bool) (p : Placed w kinds places ls) (d : Direct w kinds places ls r) where
  -- a place has one kind
  one_kind : (a b i : ℕ) → a < length kinds → b < length kinds → get_or places a 0 ≡ i → get_or places b 0 ≡ i → a ≡ b
  one_kind a b i ha hb ea eb =
      let n = p.paired in same_position places p.apart a b (omega arith) (omega arith) (ea ∙ sym eb)

  just_below : (i j : ℕ) → JustBelow kinds places ls i j → Below kinds places ls i j
  just_below i j n = record {
    upper = n.upper;
    lower = n.lower;
    upper_stands = n.upper_stands;
    lower_stands = n.lower_stands;
    upper_place = n.upper_place;
    lower_place = n.lower_place;
    descent = elim n.near [
      | inl e ↦ descends_refl (get_or kinds n.lower 0) (get_or kinds n.upper 0) (ap (λ x. get_or kinds x 0) (sym e))
      | inr h ↦ up h self
    ];
  }

  below_trans : (i m j : ℕ) → Below kinds places ls i m → Below kinds places ls m j → Below kinds places ls i j
  below_trans i m j s t =
      let e = one_kind s.lower t.upper m s.lower_stands t.upper_stands s.lower_place t.upper_place in
      record {
        upper = s.upper;
        lower = t.lower;
        upper_stands = s.upper_stands;
        lower_stands = t.lower_stands;
        upper_place = s.upper_place;
        lower_place = t.lower_place;
        descent = descends_trans t.descent (rw e at s.descent);
      }

  closure-below : (b : ℕ) → b ≤ w → (i j : ℕ) → i < w → j < w → closure b r i j ≡ true → Below kinds places ls i j
  closure-below zero fits i j hi hj h = just_below i j ((d i j hi hj).0 h)
  closure-below (suc b) fits i j hi hj h =
      elim (closure_step b r i j h) [
        | inl s ↦ closure-below b (omega arith) i j hi hj s
        | inr s ↦
            below_trans i b j (closure-below b (omega arith) i b hi (omega arith) s.0)
            (closure-below b (omega arith) b j (omega arith) hj s.1)
      ]

  -- a kind's own cell, and that of a line
  near_cell : (a b : ℕ) → a < length kinds → b < length kinds →
      (a ≡ b) ⊎ (has_line (get_or kinds b 0) (get_or kinds a 0) ls ≡ true) →
      closure w r (get_or places a 0) (get_or places b 0) ≡ true
  near_cell a b ha hb near =
      closure_keeps w r (get_or places a 0) (get_or places b 0)
      ((d (get_or places a 0) (get_or places b 0) (p.below a ha) (p.below b hb)).1
      record {
        upper = a;
        lower = b;
        upper_stands = ha;
        lower_stands = hb;
        upper_place = refl;
        lower_place = refl;
        near = near;
      })

  below-closure : {k m : ℕ} → Descends ls k m → (a b : ℕ) → a < length kinds → b < length kinds →
      get_or kinds a 0 ≡ m → get_or kinds b 0 ≡ k → closure w r (get_or places a 0) (get_or places b 0) ≡ true
  below-closure self a b ha hb ea eb = near_cell a b ha hb (inl (same_position kinds p.different a b ha hb (ea ∙ sym eb)))
  below-closure (up {k} {p = q} {m} h rest) a b ha hb ea eb =
      let c = stands_position q kinds (p.between k q h).1 in
      closure_trans w r (get_or places a 0) (get_or places c.0 0) (get_or places b 0) (p.below c.0 c.1)
      (below-closure rest a c.0 ha c.1 ea c.2)
      (near_cell c.0 b c.1 hb (inr (rw (eb, c.2) h)))

pub closure_right : ClosureRight
closure_right w kinds places ls r p d a b ha hb = (to, λ h. below-closure w kinds places ls r p d h a b ha hb refl refl)
  where
    to : closure w r (get_or places a 0) (get_or places b 0) ≡ true → Descends ls (get_or kinds b 0) (get_or kinds a 0)
    to h =
        let q = closure-below w kinds places ls r p d w (omega arith) (get_or places a 0) (get_or places b 0) (p.below a ha) (p.below b hb) h in
        let ea = one_kind w kinds places ls r p d q.upper a (get_or places a 0) q.upper_stands ha q.upper_place refl in
        let eb = one_kind w kinds places ls r p d q.lower b (get_or places b 0) q.lower_stands hb q.lower_place refl in
        rw (ea, eb) at q.descent

-- the same, as one truth value
pub closure-descends : (w : ℕ) (kinds places : List ℕ) (ls : List Line) (r : ℕ → ℕ → Bool) →
    Placed w kinds places ls → Direct w kinds places ls r → (a b : ℕ) → a < length kinds → b < length kinds →
    closure w r (get_or places a 0) (get_or places b 0) ≡ descends ls (get_or kinds b 0) (get_or kinds a 0)
closure-descends w kinds places ls r p d a b ha hb =
    same_from_decides (closure w r (get_or places a 0) (get_or places b 0)) (descends ls (get_or kinds b 0) (get_or kinds a 0))
    (closure_right w kinds places ls r p d a b ha hb) (descends_decided ls (get_or kinds b 0) (get_or kinds a 0))

-- a cell that is true stands at the places of two kinds
pub closure_places : (w : ℕ) (kinds places : List ℕ) (ls : List Line) (r : ℕ → ℕ → Bool) →
    Placed w kinds places ls → Direct w kinds places ls r → (i j : ℕ) → i < w → j < w →
    closure w r i j ≡ true → (stands i places ≡ true) × (stands j places ≡ true)
closure_places w kinds places ls r p d i j hi hj h =
    let q = closure-below w kinds places ls r p d w (omega arith) i j hi hj h in
    let n = p.paired in
    let a : q.upper < length places = omega (arith, q.upper_stands) in
    let b : q.lower < length places = omega (arith, q.lower_stands) in
    (rw q.upper_place at (stands_at places q.upper a), rw q.lower_place at (stands_at places q.lower b))

pub closure_only_places : ClosureOnlyPlaces
closure_only_places w kinds places ls r p d i j hi hj out =
    elim (cases_Bool (closure w r i j)) [
      | inl e ↦
          let q = closure_places w kinds places ls r p d i j hi hj e in
          elim out [ inl x ↦ absurd (both_ways (stands i places) x q.0) | inr x ↦ absurd (both_ways (stands j places) x q.1) ]
      | inr e ↦ e
    ]
