use Rattle.std.proofs.Common.{ℕ, ◌^◌, ◌<◌, List, [], ◌∷◌, ◌++◌, length, vec_items, ap, ◌∙◌, arith, rules}
use Rattle.catalogue.specs.Seats.{Freed}
use Rattle.catalogue.proofs.KindEdits.{withdrawn_below, withdrawn_seats}
use Rattle.catalogue.proofs.seats.Seats.unseat.Goals as goal

-- the free places only by their list: that no memory is taken is for the clause `places` alone
pub invariant_of-self : goal.invariant_of-self
invariant_of-self c =
    let s = c.args.self.now in
    let before = vec_items s.kinds.entries in
    let after = vec_items c.remove-kind.new.self.entries in
    let gone = c.remove-kind in
    let freed = c.push_reserved in
    let done : Freed c.args.at before (vec_items s.free) after (vec_items freed.new.self) =
    (gone.result, gone.ensures.value, gone.ensures.entries, freed.ensures.items ∙ ap (λ (ps : List ℕ). ps ++ gone.result.place ∷ []) (search rules)) in
    let within : c.args.at < length before = omega (arith, s.kinds.entries.ok.0) in
    let kept = gone.ensures.most in
    record {
      wide = (omega (arith, kept, s.wide.0), omega (arith, kept, s.wide.1));
      room = omega (arith, kept, freed.ensures.capacity, s.room);
      serials = withdrawn_below before after (vec_items s.free) (vec_items freed.new.self) c.args.at done (2 ^ 28) s.serials;
      seats = rw kept (withdrawn_seats before after (vec_items s.free) (vec_items freed.new.self) c.args.at done within s.kinds.most s.seats);
    }
