-- A call may be handed only the start of the code table: what that means for the table.
use Rattle.std.proofs.Common.{◌≡◌, ℕ, ◌<◌, ◌≤◌, Bool, false, List, ◌++◌, length, get_or, sym, refl, ap, ◌∙◌, arith}
use Rattle.codes.specs.Sorts.{Sort}
use Rattle.closing.specs.Tables.{sets_of}
use Rattle.catalogue.specs.Table.{Table, table_of, Belongs}
use Rattle.catalogue.specs.View.{View, view}
use Rattle.catalogue.specs.declared.state.Catalogue.{Catalogue}
use Rattle.descent.proofs.Proper.{below_at}
use Rattle.catalogue.proofs.Seating.{seated_kinds}
use Rattle.catalogue.proofs.Shown.{view_seated, view_paired}
use Rattle.std.proofs.lemmas.List.{length-map, length-append, get_or_append_left, map-append}

-- two tables that have the same rows below the width belong to the same catalogues
same_rows : (v : View) (t u : Table) → ((a : ℕ) → a < length v.book.kinds → get_or v.places a 0 < v.book.wide)
    → t.across ≡ u.across → v.book.wide ≤ length u.rows
    → ((i : ℕ) → i < v.book.wide → get_or u.rows i (λ _. false) ≡ get_or t.rows i (λ _. false)) → Belongs v t → Belongs v u
same_rows v t u placed across room same b =
    record {
      wide = b.wide ∙ across;
      closed = λ shut.
          let c = b.closed shut in
          record {
            room = room;
            filled =
                record {
                  descent = λ x y hx hy. ap (λ (row : ℕ → Bool). row (get_or v.places y 0)) (same (get_or v.places x 0) (placed x hx)) ∙ c.filled.descent x y hx hy;
                  only = λ i j hi hj off. ap (λ (row : ℕ → Bool). row j) (same i hi) ∙ c.filled.only i j hi hj off;
                };
            ringless = c.ringless;
          };
    }

-- every standing kind has a place below the width
placed : (s : Catalogue) (a : ℕ) → a < length (view s).book.kinds → get_or (view s).places a 0 < (view s).book.wide
placed s a lt =
    let v = view s in
    below_at v.book.wide v.places (seated_kinds v.book.wide v.places v.free (view_seated s)).0 a (omega (arith, view_paired s))

-- the start of a table, with a row for each place, belongs to a catalogue exactly where the table does
module _ {S R : Type 0} (s : Catalogue) (sort : Sort S R) (start more : List R) (wide : (view s).book.wide ≤ length start) where
  same_row : (i : ℕ) → i < (view s).book.wide → get_or (sets_of sort (start ++ more)) i (λ _. false) ≡ get_or (sets_of sort start) i (λ _. false)
  same_row i lt =
      ap (λ (sets : List (ℕ → Bool)). get_or sets i (λ _. false)) (map-append sort.reads start more)
      ∙ get_or_append_left (sets_of sort start) (sets_of sort more) (λ _. false) i (omega (arith, length-map start sort.reads))

  pub start_belongs : Belongs (view s) (table_of sort (start ++ more)) → Belongs (view s) (table_of sort start)
  start_belongs b =
      same_rows (view s) (table_of sort (start ++ more)) (table_of sort start) (placed s) refl (omega (arith, length-map start sort.reads))
      (λ i lt. sym (same_row i lt)) b

  pub whole_belongs : Belongs (view s) (table_of sort start) → Belongs (view s) (table_of sort (start ++ more))
  whole_belongs b =
      same_rows (view s) (table_of sort start) (table_of sort (start ++ more)) (placed s) refl
      (omega (arith, length-map (start ++ more) sort.reads, length-append start more)) same_row b
