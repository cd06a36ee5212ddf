-- The places of a catalogue's kinds, and the places that are put into a value.
use Rattle.std.proofs.Common.{◌≡◌, ℕ, zero, suc, ◌<◌, Bool, ◌||◌, eqb, List, [], ◌∷◌, map, length, get_or, Ok, Err, vec_items, Result, sym, ap, ◌∙◌, arith}
use Rattle.std.proofs.lemmas.List.{length-map}
use Rattle.std.proofs.lemmas.Bool.{cond-true, cond-false, eq-eqb, ne_eqb}
use Rattle.std.proofs.Math.Bool.{or-false}
use Rattle.std.proofs.lemmas.Bool.Decides.{nat_tests}
use Rattle.words.specs.declared.refusal.CodeFault.{CodeFault}
use Rattle.codes.specs.Sorts.{Sort, Agree, Changed}
use Rattle.descent.specs.Lines.{Distinct}
use Rattle.descent.specs.Closure.{Placed}
use Rattle.descent.proofs.Proper.{proper_placed}
use Rattle.catalogue.specs.declared.state.Catalogue.{Catalogue}
use Rattle.catalogue.specs.View.{view}
use Rattle.catalogue.proofs.Seating.{seated_kinds}
use Rattle.catalogue.proofs.Shown.{view_seated, view_paired, standing_held}
use Rattle.asking.specs.Naming.{seat}

-- the place of the kind at an index
pub seat_at : (ks ps : List ℕ) (b x : ℕ) → Distinct ks → length ps ≡ length ks → b < length ks → get_or ks b 0 ≡ x →
    seat ks ps x ≡ get_or ps b 0
seat_at [] ps b x apart paired h is = absurd (omega arith)
seat_at (k ∷ ks) [] b x apart paired h is = absurd (omega arith)
seat_at (k ∷ ks) (p ∷ ps) zero x apart paired h is = cond-true (eqb k x) p (seat ks ps x) (eq-eqb k x is)
seat_at (k ∷ ks) (p ∷ ps) (suc b) x apart paired h is =
    cond-false (eqb k x) p (seat ks ps x) (ne_eqb k x (λ same. apart 0 (suc b) (omega arith) (omega arith) (same ∙ sym is)))
    ∙ seat_at ks ps b x (λ i j lt l e. apart (suc i) (suc j) (omega arith) (omega arith) e) (omega arith) (omega arith) is

-- the kinds of a catalogue are placed
pub view_placed : (c : Catalogue) → Placed (view c).book.wide (view c).book.kinds (view c).places (view c).book.lines
view_placed c =
    let v = view c in
    let seats = seated_kinds v.book.wide v.places v.free (view_seated c) in
    let held = standing_held c in
    proper_placed v.book.wide v.book.kinds v.places v.book.lines (view_paired c) held.rising seats.0 seats.1 held.joins

swap : (p q : ℕ) (b : Bool) → (eqb p q || b) ≡ (b || eqb q p)
swap p q b = grind (arith, nat_tests)

-- below the width it makes no difference whether the place was refused
pub put_any : {S R : Type 0} (s : Sort S R) (old new : S) (place : ℕ) (r : Result (Unit {0}) CodeFault) →
    Changed s old new place (λ p. eqb p place || s.means old p) r → Agree s.width (s.means new) (λ p. s.means old p || eqb place p)
put_any s old new place (Ok _) h p lt = h.1 p lt ∙ swap p place (s.means old p)
put_any s old new place (Err _) h p lt =
    let there = ne_eqb place p (λ e. omega (arith, h.0)) in
    ap (λ v. s.means v p) h.1 ∙ rw there (sym (or-false (s.means old p)))
