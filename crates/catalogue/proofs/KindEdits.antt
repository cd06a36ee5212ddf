-- What entering and withdrawing a kind keep true of the kinds, their places and the lines.
use Rattle.std.proofs.Common.{◌≡◌, ℕ, ◌+◌, ◌<◌, ◌≤◌, true, false, not, eqb, List, ◌++◌, length, get_or, Ok, Err, filter, sym, ap, ◌∙◌, subst, ⊎_elim, arith}
use Rattle.std.specs.List.{insert, remove}
use Rattle.std.proofs.lemmas.List.{length-append, get_or_default, map-id}
use Rattle.std.proofs.lemmas.Bool.{or_right, and_parts, eqb-true, eq-eqb, ne_eqb, not_from_true, not_from_false, both_ways, cases_lt}
use Rattle.descent.specs.declared.line.Line.{Line}
use Rattle.descent.specs.Lines.{serials_of, places_of, stands, mentioned}
use Rattle.descent.specs.declared.kind.Kind.{Kind}
use Rattle.descent.specs.Order.{rising_from, filed}
use Rattle.search.specs.Order.{Located}
use Rattle.descent.specs.Proper.{below, joining}
use Rattle.catalogue.specs.Proper.{seated}
use Rattle.catalogue.specs.Seats.{Seated, Freed}
use Rattle.descent.proofs.Lines.{place_at}
use Rattle.descent.proofs.Proper.{rising_later}
use Rattle.search.proofs.Spots.{gap_filed}
use Rattle.descent.proofs.Rows.{left_out, map_inserted, map_removed, stands_inserted, stands_kept, below_inserted, below_removed, joining_kept}
use Rattle.catalogue.proofs.Seating.{seated_inserted, seated_removed}

-- as many places as the width says
pub seats_count : (w : ℕ) (ps free : List ℕ) → seated w (ps ++ free) ≡ true → length ps + length free ≡ w
seats_count w ps free h =
    let e = eqb-true (length (ps ++ free)) w (and_parts (eqb (length (ps ++ free)) w) _ h).0 in
    omega (arith, length-append ps free)

module _ (kinds kinds' : List Kind) (free free' : List ℕ) (x i : ℕ) (done : Seated x i kinds free kinds' free') where
  entered_serials : serials_of kinds' ≡ insert (serials_of kinds) i x
  entered_serials = ap serials_of done.2 ∙ map_inserted (λ k. k.serial) kinds i _

  pub entered_below : (w : ℕ) → x < w → below w (serials_of kinds) ≡ true → below w (serials_of kinds') ≡ true
  entered_below w l h = ap (below w) entered_serials ∙ below_inserted (serials_of kinds) i x w l h

  pub entered_seats : (w : ℕ) → seated w (places_of kinds ++ free) ≡ true → seated w (places_of kinds' ++ free') ≡ true
  entered_seats w h =
      ap (λ (ps : List ℕ). seated w (ps ++ free')) (ap places_of done.2 ∙ map_inserted (λ k. k.place) kinds i _)
      ∙ seated_inserted w (places_of kinds) free free' i done.0 done.1 h

  pub entered_joining : (ls : List Line) → joining (serials_of kinds) ls ≡ true → joining (serials_of kinds') ls ≡ true
  entered_joining ls h =
      joining_kept (serials_of kinds) (serials_of kinds') ls
      (λ y s _. ap (stands y) entered_serials ∙ stands_inserted (serials_of kinds) i x y ∙ or_right (eqb x y) (stands y (serials_of kinds)) s) h

  pub entered_filed : Located (serials_of kinds) x (Err i) → serials_of kinds' ≡ filed (λ k. k) x (serials_of kinds)
  entered_filed look = entered_serials ∙ gap_filed (λ k. k) (serials_of kinds) x i (subst (λ (ys : List ℕ). Located ys x (Err i)) (sym (map-id (serials_of kinds))) look)

module _ (kinds kinds' : List Kind) (free free' : List ℕ) (i : ℕ) (done : Freed i kinds free kinds' free') where
  left_serials : serials_of kinds' ≡ remove (serials_of kinds) i
  left_serials = ap serials_of done.2 ∙ map_removed (λ k. k.serial) kinds i

  pub withdrawn_below : (w : ℕ) → below w (serials_of kinds) ≡ true → below w (serials_of kinds') ≡ true
  withdrawn_below w h = ap (below w) left_serials ∙ below_removed w (serials_of kinds) i h

  pub withdrawn_seats : i < length kinds → (w : ℕ) → seated w (places_of kinds ++ free) ≡ true → seated w (places_of kinds' ++ free') ≡ true
  withdrawn_seats within w h =
      let at = place_at kinds i done.0 within in
      ap (λ (ps : List ℕ). seated w (ps ++ free')) (ap places_of done.2 ∙ map_removed (λ k. k.place) kinds i)
      ∙ seated_removed w (places_of kinds) free free' i done.0.place at.0
      (at.1 ∙ ap (λ k. k.place) (sym done.1)) done.3 h

  module _ (x : ℕ) (r : rising_from 0 (serials_of kinds) ≡ true) (look : Located (serials_of kinds) x (Ok i)) where
    apart : (k : ℕ) → k < length (serials_of kinds) → (k ≡ i → ⊥) → get_or (serials_of kinds) k 0 ≡ x → ⊥
    apart k l ne e =
        ⊎_elim
        (λ (lt : k < i). omega (arith, look.1, rising_later 0 (serials_of kinds) r k i lt look.0))
        (λ (ge : i ≤ k). omega (arith, look.1, rising_later 0 (serials_of kinds) r i k (omega arith) l))
        (cases_lt k i)

    at_any : (k d : ℕ) → k < length (serials_of kinds) → get_or (serials_of kinds) k d ≡ get_or (serials_of kinds) k 0
    at_any k d l = get_or_default (serials_of kinds) k d 0 l

    pub withdrawn_kept : serials_of kinds' ≡ filter (λ k. not (eqb k x)) (serials_of kinds)
    withdrawn_kept =
        left_serials
        ∙ left_out (λ k. not (eqb k x)) (serials_of kinds) i look.0
        (λ d. not_from_true (eqb (get_or (serials_of kinds) i d) x) (eq-eqb (get_or (serials_of kinds) i d) x (at_any i d look.0 ∙ look.1)))
        (λ k d l ne. not_from_false (eqb (get_or (serials_of kinds) k d) x) (ne_eqb (get_or (serials_of kinds) k d) x (λ e. apart k l ne (sym (at_any k d l) ∙ e))))

    pub withdrawn_joining : (ls : List Line) → mentioned x ls ≡ false → joining (serials_of kinds) ls ≡ true → joining (serials_of kinds') ls ≡ true
    withdrawn_joining ls out h =
        joining_kept (serials_of kinds) (serials_of kinds') ls
        (λ y s m. ap (stands y) withdrawn_kept
        ∙ stands_kept (λ k. not (eqb k x)) (serials_of kinds) y (not_from_false (eqb y x) (ne_eqb y x (λ e. both_ways (mentioned x ls) out (ap (λ (z : ℕ). mentioned z ls) (sym e) ∙ m)))) s) h
