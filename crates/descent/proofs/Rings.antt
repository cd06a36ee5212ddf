-- Where some kind leads up to itself there is a ring, and the test finds it.
use Rattle.std.proofs.Common.{◌≡◌, ℕ, zero, suc, ◌-◌, ◌<◌, ◌≤◌, true, false, List, [], ◌∷◌, length, get_or, sym, refl, ◌∙◌, inl, inr, add-one, arith}
use Rattle.std.proofs.lemmas.Bool.{false≢true, both_ways, or_cases, or_left, or_right}
use Rattle.std.proofs.lemmas.Bool.Decides.{same_from_decides}
use Rattle.descent.specs.declared.line.Line.{Line}
use Rattle.descent.specs.Lines.{has_line}
use Rattle.descent.specs.Descent.{Descends, self, up, LeadsUp, descends}
use Rattle.descent.specs.Rings.{Ring, some_round, ringed, RingedDecided, RingFound, RingShows}
use Rattle.descent.proofs.Lines.{line_here, line_later, line_cases}
use Rattle.descent.proofs.Descent.{descends_trans, leads_from, leads_first, Walk, Path, path, descends_decided, descends_by_more}

some_round_lem : (ls rest : List Line) → some_round ls rest ≡ true → (c : ℕ) × (p : ℕ) × (has_line c p rest ≡ true) × Descends ls p c
some_round_lem ls [] h = absurd (false≢true h)
some_round_lem ls (l ∷ rest) h =
    elim (or_cases (descends ls l.parent l.child) (some_round ls rest) h) [
      | inl e ↦
          (l.child, l.parent, line_here l rest l.child l.parent refl refl, (descends_decided ls l.parent l.child).0 e)
      | inr e ↦ let q = some_round_lem ls rest e in (q.0, q.1, line_later l rest q.0 q.1 q.2, q.3)
    ]

round_some : (ls rest : List Line) (c p : ℕ) → has_line c p rest ≡ true → Descends ls p c → some_round ls rest ≡ true
round_some ls [] c p h d = h
round_some ls (l ∷ rest) c p h d =
    elim (line_cases l rest c p h) [
      | inl e ↦
          or_left (descends ls l.parent l.child) (some_round ls rest)
          ((descends_decided ls l.parent l.child).1 (rw (e.0, e.1) d))
      | inr e ↦ or_right (descends ls l.parent l.child) (some_round ls rest) (round_some ls rest c p e d)
    ]

-- a line whose parent descends from its child
pub ringed_by : (ls : List Line) (c p : ℕ) → has_line c p ls ≡ true → Descends ls p c → ringed ls ≡ true
ringed_by ls c p h d = round_some ls ls c p h d

pub ringed-line : (ls : List Line) → ringed ls ≡ true → (c : ℕ) × (p : ℕ) × (has_line c p ls ≡ true) × Descends ls p c
ringed-line ls e = some_round_lem ls ls e

pub ringed_decided : RingedDecided
ringed_decided ls = (
  λ e. let q = ringed-line ls e in (q.0, leads_from q.2 q.3),
  λ w. let q = leads_first w.1 in ringed_by ls w.0 q.0 q.1 q.2,
)

pub none_leads_back : (ls : List Line) → ringed ls ≡ false → (k : ℕ) → LeadsUp ls k k → ⊥
none_leads_back ls e k w = both_ways (ringed ls) e ((ringed_decided ls).1 (k, w))

-- of a walk: each kind has a line to the next, and the last is where it ends
walk_next : (ls : List Line) (a m : ℕ) (xs : List ℕ) → Walk ls a xs m →
    (i : ℕ) → i < length xs → has_line (get_or (a ∷ xs) i 0) (get_or xs i 0) ls ≡ true
walk_next ls a m [] w i h = absurd (omega arith)
walk_next ls a m (b ∷ bs) w zero h = w.0
walk_next ls a m (b ∷ bs) w (suc i) h = walk_next ls b m bs w.1 i (omega arith)

walk_last : (ls : List Line) (a m : ℕ) (xs : List ℕ) → Walk ls a xs m → get_or (a ∷ xs) (length xs) 0 ≡ m
walk_last ls a m [] w = w
walk_last ls a m (b ∷ bs) w = walk_last ls b m bs w.1

-- a walk to another kind has a line
walk_some : (ls : List Line) (a m : ℕ) (xs : List ℕ) → (a ≡ m → ⊥) → Walk ls a xs m → 1 ≤ length xs
walk_some ls a m [] ne w = absurd (ne w)
walk_some ls a m (b ∷ bs) ne w = omega arith

-- a line from k to another kind, and a walk from there back to k
ring_of : (ls : List Line) (k p : ℕ) → (p ≡ k → ⊥) → has_line k p ls ≡ true → (q : Path ls p k) → Ring ls (p ∷ q.kinds)
ring_of ls k p ne h q = record {
  two = let some = walk_some ls p k q.kinds ne q.walk in omega arith;
  different = q.apart;
  next = λ i lt. rw (add-one i) (walk_next ls p k q.kinds q.walk i (omega arith));
  round = let n : length (p ∷ q.kinds) - 1 ≡ length q.kinds = omega arith in
      rw (n, walk_last ls p k q.kinds q.walk) h;
}

pub ring_found : RingFound
ring_found ls own e =
    let w = (ringed_decided ls).0 e in
    let q = leads_first w.1 in
    let ne : q.0 ≡ w.0 → ⊥ = λ same. both_ways (has_line w.0 w.0 ls) (own w.0) (rw same at q.1) in
    let r = path ls q.0 w.0 q.2 in
    (q.0 ∷ r.kinds, ring_of ls w.0 q.0 ne q.1 r)

-- the first kind of a ring descends from each
ring_descends : (ls : List Line) (ring : List ℕ) → Ring ls ring → (i : ℕ) → i < length ring → Descends ls (get_or ring 0 0) (get_or ring i 0)
ring_descends ls ring r zero h = self
ring_descends ls ring r (suc i) h =
    descends_trans (ring_descends ls ring r i (omega arith)) (up (rw add-one at (r.next i (omega arith))) self)

pub ring_shows : RingShows
ring_shows ls ring r =
    let long = r.two in
    ringed_by ls (get_or ring (length ring - 1) 0) (get_or ring 0 0) r.round
    (ring_descends ls ring r (length ring - 1) (omega arith))

-- where the same lines stand, in whatever order, the test answers the same
pub ringed_alike : (ls ms : List Line) → ((c p : ℕ) → has_line c p ls ≡ has_line c p ms) → ringed ls ≡ ringed ms
ringed_alike ls ms same =
    same_from_decides (ringed ls) (ringed ms) (moved ls ms same, moved ms ls (λ c p. sym (same c p))) (λ e. e, λ e. e)
  where
    moved : (xs ys : List Line) → ((c p : ℕ) → has_line c p xs ≡ has_line c p ys) → ringed xs ≡ true → ringed ys ≡ true
    moved xs ys alike e =
        let q = ringed-line xs e in
        ringed_by ys q.0 q.1 (sym (alike q.0 q.1) ∙ q.2) (descends_by_more (λ c p h. sym (alike c p) ∙ h) q.3)
