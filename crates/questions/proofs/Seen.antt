-- What each place sees of the entries as words are carried out.
use Rattle.std.proofs.Common.{◌≡◌, ℕ, ◌+◌, ◌-◌, Bool, [], ◌∷◌, ◌++◌, map, reverse, length, sym, ap, ◌∙◌, arith}
use Rattle.std.proofs.lemmas.List.{length_push, reverse-append}
use Rattle.codes.specs.Sorts.{Sort, Agree}
use Rattle.stack.specs.declared.lent.Stack.{Stack}
use Rattle.stack.specs.Held.{held, SameSlots}
use Rattle.questions.specs.Questions.{on_top, on_two}
use Rattle.questions.specs.Entries.{seen, Turned}

same_slots_trans : {R : Type 0} (s t u : Stack R) → SameSlots s t → SameSlots t u → SameSlots s u
same_slots_trans s t u p q = (q.0 ∙ p.0, q.1 ∙ p.1)

-- one entry more
length-held_more : {R : Type 0} (old new : Stack R) (row : R) → held new ≡ held old ++ row ∷ [] → length (held new) ≡ length (held old) + 1
length-held_more old new row e = ap length e ∙ length_push (held old) row

-- an entry on top
pub seen_more : {S R : Type 0} (sort : Sort S R) (p : ℕ) (old new : Stack R) (row : R) → held new ≡ held old ++ row ∷ [] → seen sort p new ≡ sort.reads row p ∷ seen sort p old
seen_more sort p old new row e =
    ap (λ xs. map (λ r. sort.reads r p) (reverse xs)) e
    ∙ ap (map (λ r. sort.reads r p)) (reverse-append (held old) (row ∷ []))

-- a row is put on top
pub turned_put : {S R : Type 0} (sort : Sort S R) (set : ℕ → Bool) (old new : Stack R) (r : R) → held new ≡ held old ++ r ∷ [] → SameSlots old new → Agree sort.width (sort.reads r) set → Turned sort (λ p entries. set p ∷ entries) (length (held old) + 1) old new
turned_put sort set old new r put s set_is =
    record {
      entries = λ p h. seen_more sort p old new r put ∙ ap (λ b. b ∷ seen sort p old) (set_is p h);
      deep = length-held_more old new r put;
      slots = s;
    }

-- the row on top is replaced
pub turned_top : {S R : Type 0} (sort : Sort S R) (f : ℕ → Bool → Bool) (old one new : Stack R) (a r : R) → held old ≡ held one ++ a ∷ [] → SameSlots old one → held new ≡ held one ++ r ∷ [] → SameSlots one new → Agree sort.width (sort.reads r) (λ p. f p (sort.reads a p)) → Turned sort (λ p. on_top (f p)) (length (held old)) old new
turned_top sort f old one new a r took s put t set_is =
    record {
      entries = λ p h. seen_more sort p one new r put ∙ ap (λ b. b ∷ seen sort p one) (set_is p h) ∙ sym (ap (on_top (f p)) (seen_more sort p one old a took));
      deep = length-held_more one new r put ∙ sym (length-held_more one old a took);
      slots = same_slots_trans old one new s t;
    }

-- the two rows on top are replaced by one
pub turned_two : {S R : Type 0} (sort : Sort S R) (f : Bool → Bool → Bool) (old one two new : Stack R) (a b r : R) → held old ≡ held one ++ b ∷ [] → SameSlots old one → held one ≡ held two ++ a ∷ [] → SameSlots one two → held new ≡ held two ++ r ∷ [] → SameSlots two new → Agree sort.width (sort.reads r) (λ p. f (sort.reads a p) (sort.reads b p)) → Turned sort (λ _. on_two f) (length (held old) - 1) old new
turned_two sort f old one two new a b r took-b s took-a t put u set_is =
    let seen-old : (p : ℕ) → seen sort p old ≡ sort.reads b p ∷ sort.reads a p ∷ seen sort p two = λ p. seen_more sort p one old b took-b ∙ ap (λ xs. sort.reads b p ∷ xs) (seen_more sort p two one a took-a) in
    let d = length-held_more two new r put in
    let d-a = length-held_more two one a took-a in
    let d-b = length-held_more one old b took-b in
    record {
      entries = λ p h. seen_more sort p two new r put ∙ ap (λ x. x ∷ seen sort p two) (set_is p h) ∙ sym (ap (on_two f) (seen-old p));
      deep = omega arith;
      slots = same_slots_trans old one new s (same_slots_trans one two new t u);
    }
