-- What stands in a catalogue, and what is lent of it.
use Rattle.std.proofs.Common.{◌≡◌, ℕ, true, List, ◌++◌, length, vec_items, sym, ◌∙◌, subst, arith}
use Rattle.std.proofs.lemmas.List.{length-map}
use Rattle.descent.specs.declared.line.Line.{Line}
use Rattle.descent.specs.declared.standing.Standing.{Standing}
use Rattle.descent.specs.Lines.{serials_of, places_of}
use Rattle.descent.specs.Proper.{CanHold}
use Rattle.catalogue.specs.declared.state.Catalogue.{Catalogue}
use Rattle.catalogue.specs.View.{View, view, Shows}
use Rattle.catalogue.specs.Proper.{seated}
use Rattle.catalogue.proofs.KindEdits.{seats_count}

-- the places of the kinds and the free places are the places below the width, each once
pub view_seated : (s : Catalogue) → seated (view s).book.wide ((view s).places ++ (view s).free) ≡ true
view_seated s = s.seats.seats

-- each kind has a place
pub view_paired : (s : Catalogue) → length (view s).places ≡ length (view s).book.kinds
view_paired s =
    let kinds = vec_items s.seats.kinds.entries in
    length-map kinds (λ k. k.place) ∙ sym (length-map kinds (λ k. k.serial))

-- what stands, a catalogue can hold
pub standing_held : (s : Catalogue) → CanHold (view s).book.wide (view s).book.kinds (view s).book.lines
standing_held s =
    let count = seats_count (view s).book.wide (view s).places (view s).free (view_seated s) in
    let paired = view_paired s in
    record {
      wide = s.seats.wide.1;
      places = omega arith;
      rising = s.seats.kinds.rising;
      serials = s.seats.serials;
      ordered = s.lines.rising;
      joins = s.joins;
      few = omega (arith, s.most, s.lines.few, s.lines.entries.ok.0);
    }

-- what holds of what is lent holds of what stands
pub as_shown : (P : ℕ → List ℕ → List ℕ → List Line → Type 0) (v : View) (s : Standing) → Shows v s
    → P s.width (serials_of s.kinds.now) (places_of s.kinds.now) s.lines.now → P v.book.wide v.book.kinds v.places v.book.lines
as_shown P v s shown h =
    subst (λ (w : ℕ). P w v.book.kinds v.places v.book.lines) shown.width
    (subst (λ (ks : List ℕ). P s.width ks v.places v.book.lines) shown.serials
    (subst (λ (ps : List ℕ). P s.width (serials_of s.kinds.now) ps v.book.lines) shown.places
    (subst (λ (ls : List Line). P s.width (serials_of s.kinds.now) (places_of s.kinds.now) ls) shown.lines h)))
