use Rattle.std.proofs.Common.{ℕ, ◌^◌, List, ◌++◌, length, vec_items, ap, ◌∙◌, ap₂, arith}
use Rattle.std.proofs.lemmas.List.FromFn.{length-range_with_len}
use Rattle.descent.specs.declared.kind.Kind.{Kind}
use Rattle.descent.specs.Proper.{below}
use Rattle.descent.specs.Lines.{serials_of, places_of}
use Rattle.catalogue.specs.Proper.{seated}
use Rattle.catalogue.proofs.Seating.{seated_first}
use Rattle.catalogue.proofs.seats.Seats.new.Goals as goal

pub invariant_of-result : goal.invariant_of-result
invariant_of-result c =
    let w = c.args.width in
    let k = c.in_ok-kinds.ensures in
    let f = c.in_ok-free.ensures in
    let all = length-range_with_len 0 w in
    record {
      wide = (omega (arith, k.0, c.requires.some), omega (arith, k.0, c.requires.most));
      room = omega (arith, k.0, ap length f, c.in_ok-free.free.ok.0, c.in_ok-free.free.ok.1);
      serials = ap (λ (xs : List Kind). below (2 ^ 28) (serials_of xs)) k.1;
      seats = ap (λ (n : ℕ). seated n (places_of (vec_items c.in_ok-kinds.kinds.entries) ++ vec_items c.in_ok-free.free)) k.0
          ∙ ap₂ (λ (xs : List Kind) (ys : List ℕ). seated w (places_of xs ++ ys)) k.1 f ∙ seated_first w;
    }
