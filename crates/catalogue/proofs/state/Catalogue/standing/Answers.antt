use Rattle.std.proofs.Common.{ℕ, ◌^◌, List, map, vec_items, ap, ◌∙◌, ap₂, arith}
use Rattle.descent.specs.declared.kind.Kind.{Kind}
use Rattle.descent.specs.declared.line.Line.{Line}
use Rattle.descent.specs.Lines.{serials_of, places_of}
use Rattle.descent.specs.Order.{rising_from, line_key}
use Rattle.descent.specs.Proper.{below, distinct, joining}
use Rattle.catalogue.proofs.Seating.{seated_kinds}
use Rattle.catalogue.proofs.state.Catalogue.standing.Goals as goal

pub invariant_of-result : goal.invariant_of-result
invariant_of-result c =
    let s = c.args.self.now in
    let w = c.width.ensures.value in
    let ks = c.as_slice.ensures in
    let ls = c.as_slice-2.ensures in
    let seats = seated_kinds s.seats.kinds.most (places_of (vec_items s.seats.kinds.entries)) (vec_items s.seats.free) s.seats.seats in
    record {
      wide = (omega (arith, w, s.seats.wide.0), c.width.ensures.bound);
      rising = ap (λ (xs : List Kind). rising_from 0 (serials_of xs)) ks ∙ s.seats.kinds.rising;
      serials = ap (λ (xs : List Kind). below (2 ^ 28) (serials_of xs)) ks ∙ s.seats.serials;
      low = ap₂ (λ (n : ℕ) (xs : List Kind). below n (places_of xs)) w ks ∙ seats.0;
      apart = ap (λ (xs : List Kind). distinct (places_of xs)) ks ∙ seats.1;
      ordered = ap (λ (xs : List Line). rising_from 0 (map line_key xs)) ls ∙ s.lines.rising;
      joins = ap₂ (λ (xs : List Kind) (ys : List Line). joining (serials_of xs) ys) ks ls ∙ s.joins;
    }
