-- The cells of a table, before and after one row of it is written.
use Rattle.std.proofs.Common.{◌≡◌, ℕ, zero, suc, ◌+◌, ◌<◌, ◌≤◌, Bool, true, false, ◌&&◌, ◌||◌, eqb, ltb, ◌≢◌, List, length, get_or, replicate, set, Ok, Err, Result, sym, refl, ap, ◌∙◌, inl, inr, arith}
use Rattle.std.proofs.Math.Bool.{or_comm, or-false}
use Rattle.std.proofs.lemmas.List.{get_or-map, map-set, length-map, get_or-set_same, get_or-set_other}
use Rattle.std.proofs.lemmas.Bool.{lt-ltb, cases_eq, eq-eqb, ne_eqb}
use Rattle.words.specs.declared.refusal.CodeFault.{CodeFault}
use Rattle.codes.specs.Sorts.{Sort, Agree, Changed}
use Rattle.closing.specs.Tables.{sets_of, cell, Cells, Empty}

-- a place below the width is put in
pub changed_within : {S R : Type 0} (s : Sort S R) (old new : S) (place : ℕ) (set : ℕ → Bool) (r : Result (Unit {0}) CodeFault) →
    Changed s old new place set r → place < s.width → Agree s.width (s.means new) set
changed_within s old new place set (Ok _) h lt = h.1
changed_within s old new place set (Err _) h lt = absurd (omega (arith, h.0))

pub within_and : (place w : ℕ) (b : Bool) → place < w → (ltb place w && b) ≡ b
within_and place w b lt = ap (λ t. t && b) (lt-ltb place w lt)

-- what a step at k makes of a cell
abbrev pub via : ℕ → List (ℕ → Bool) → ℕ → ℕ → Bool
via k rows i j = cell rows i j || (cell rows i k && cell rows k j)

-- the rows below i are stepped, and the others are as they were
abbrev pub Stepping : ℕ → ℕ → List (ℕ → Bool) → List (ℕ → Bool) → ℕ → Type 0
Stepping w k old new i =
    ((a b : ℕ) → a < i → b < w → cell new a b ≡ via k old a b)
    × ((a b : ℕ) → i ≤ a → cell new a b ≡ cell old a b)

module _ {S R : Type 0} (s : Sort S R) where
  -- what a row is read as, where it lies in the table
  pub cell_at : (table : List R) (i j : ℕ) (d : R) → i < length table → cell (sets_of s table) i j ≡ s.reads (get_or table i d) j
  cell_at table i j d lt = ap (λ f. f j) (get_or-map s.reads table i d (λ _. false) lt)

  pub cell_read : (table : List R) (i j : ℕ) (x : R) → i < length table → x ≡ get_or table i x →
      cell (sets_of s table) i j ≡ s.reads x j
  cell_read table i j x lt is = cell_at table i j x lt ∙ ap (λ y. s.reads y j) (sym is)

  pub cell_written : (table : List R) (i j : ℕ) (x : R) → i < length table → cell (sets_of s (set table i x)) i j ≡ s.reads x j
  cell_written table i j x lt =
      let short : i < length (sets_of s table) = simp length-map lt in
      ap (λ rows. cell rows i j) (map-set s.reads table i x)
      ∙ ap (λ f. f j) (get_or-set_same (sets_of s table) i (s.reads x) (λ _. false) short)

  pub cell_kept : (table : List R) (i a j : ℕ) (x : R) → a ≢ i → cell (sets_of s (set table i x)) a j ≡ cell (sets_of s table) a j
  cell_kept table i a j x ne =
      ap (λ rows. cell rows a j) (map-set s.reads table i x)
      ∙ ap (λ f. f j) (get_or-set_other (sets_of s table) i a (s.reads x) (λ _. false) ne)

  -- row i is written anew with place p besides what it had
  pub put_cells : (table : List R) (i p : ℕ) (x : R) → i < length table →
      Agree s.width (s.reads x) (λ j. eqb j p || cell (sets_of s table) i j) →
      Cells s.width (sets_of s (set table i x)) (λ a b. cell (sets_of s table) a b || (eqb a i && eqb b p))
  put_cells table i p x lt has a b ha hb =
      elim (cases_eq a i) [
        | inl e ↦
            rw (e, eq-eqb i i refl) (cell_written table i b x lt ∙ has b hb ∙ or_comm (eqb b p) (cell (sets_of s table) i b))
        | inr ne ↦ rw (ne_eqb a i ne) (cell_kept table i a b x ne ∙ sym (or-false (cell (sets_of s table) a b)))
      ]

  -- copies of an empty row
  pub copies_empty : (n : ℕ) (x : R) → Agree s.width (s.reads x) (λ _. false) → Empty s.width (sets_of s (replicate n x))
  copies_empty zero x none i j hi hj = refl
  copies_empty (suc n) x none zero j hi hj = none j hj
  copies_empty (suc n) x none (suc i) j hi hj = copies_empty n x none i j (omega arith) hj

  module _ (w k : ℕ) (old : List (ℕ → Bool)) (table : List R) (i : ℕ) (done : Stepping w k old (sets_of s table) i) where
    pub step-joins : (x : R) → i < length table → cell (sets_of s table) i k ≡ true →
        ((b : ℕ) → b < w → s.reads x b ≡ (cell (sets_of s table) i b || cell old k b)) →
        Stepping w k old (sets_of s (set table i x)) (i + 1)
    step-joins x lt has joined = (
      λ a b ha hb.
          elim (cases_eq a i) [
            | inl e ↦
                let here = done.1 i b (omega arith) in
                let met : cell old i k ≡ true = sym (done.1 i k (omega arith)) ∙ has in
                rw (e, met, ← here) (cell_written table i b x lt ∙ joined b hb)
            | inr ne ↦ cell_kept table i a b x ne ∙ done.0 a b (omega arith) hb
          ],
      λ a b ha. let ne : a ≢ i = omega arith in cell_kept table i a b x ne ∙ done.1 a b (omega arith),
    )

    pub step-leaves : cell (sets_of s table) i k ≡ false → Stepping w k old (sets_of s table) (i + 1)
    step-leaves lacks = (
      λ a b ha hb.
          elim (cases_eq a i) [
            | inl e ↦
                let met : cell old i k ≡ false = sym (done.1 i k (omega arith)) ∙ lacks in
                rw (e, met) (done.1 i b (omega arith) ∙ sym (or-false (cell old i b)))
            | inr ne ↦ done.0 a b (omega arith) hb
          ],
      λ a b ha. done.1 a b (omega arith),
    )
