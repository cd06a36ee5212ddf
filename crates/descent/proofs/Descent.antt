-- Descent as a relation: how walks are joined and shortened, and why the test for it is right.
use Rattle.std.proofs.Common.{◌≡◌, ℕ, zero, suc, ◌<◌, ◌≤◌, Bool, true, false, cond, ◌&&◌, eqb, ◌⊎◌, List, [], ◌∷◌, length, sym, refl, ◌∙◌, inl, inr, arith}
use Rattle.std.proofs.lemmas.Bool.{false≢true, or_cases, and_parts, and_from, or_left, or_right, or_from, eqb-true, eqb-false, eq-eqb, ne_eqb, cases_eq, cases_Bool}
use Rattle.std.proofs.lemmas.Bool.Decides.{same_from_decides, Decides-like}
use Rattle.descent.specs.declared.line.Line.{Line}
use Rattle.descent.specs.Lines.{has_line, stands, Distinct}
use Rattle.descent.specs.Descent.{Descends, self, up, LeadsUp, one, more, some_parent, reaches, descends, DescendsDecided}
use Rattle.descent.proofs.Lines.{line_here, line_later, line_cases, distinct_one, distinct_more}

pub descends_refl : {ls : List Line} (k m : ℕ) → k ≡ m → Descends ls k m
descends_refl k m e = rw e self

pub descends_trans : {ls : List Line} {k m n : ℕ} → Descends ls k m → Descends ls m n → Descends ls k n
descends_trans self q = q
descends_trans (up h p) q = up h (descends_trans p q)

pub leads_descends : {ls : List Line} {k m : ℕ} → LeadsUp ls k m → Descends ls k m
leads_descends (one h) = up h self
leads_descends (more h w) = up h (leads_descends w)

-- a line, and descent from there on, lead up
pub leads_from : {ls : List Line} {k p m : ℕ} → has_line k p ls ≡ true → Descends ls p m → LeadsUp ls k m
leads_from h self = one h
leads_from h (up g d) = more h (leads_from g d)

pub descends_leads : {ls : List Line} {k m : ℕ} → Descends ls k m → (k ≡ m) ⊎ LeadsUp ls k m
descends_leads self = inl refl
descends_leads (up h d) = inr (leads_from h d)

pub leads_trans : {ls : List Line} {k m n : ℕ} → LeadsUp ls k m → LeadsUp ls m n → LeadsUp ls k n
leads_trans (one h) q = more h q
leads_trans (more h p) q = more h (leads_trans p q)

-- descent, and a walk of one line or more from there on
pub leads_after : {ls : List Line} {k m n : ℕ} → Descends ls k m → LeadsUp ls m n → LeadsUp ls k n
leads_after self q = q
leads_after (up h d) q = more h (leads_after d q)

-- the first line of a walk, and the rest
pub leads_first : {ls : List Line} {k m : ℕ} → LeadsUp ls k m → (p : ℕ) × (has_line k p ls ≡ true) × Descends ls p m
leads_first (one {k} {m} h) = (m, h, self)
leads_first (more {k} {p} {m} h w) = (p, h, leads_descends w)

-- the lines that do not start at k
abbrev without : ℕ → List Line → List Line
without k [] = []
without k (l ∷ ls) = cond (eqb l.child k) (without k ls) (l ∷ without k ls)

-- a line that is left stood before, and starts at another kind
without_line : (k c p : ℕ) (ls : List Line) → has_line c p (without k ls) ≡ true → (has_line c p ls ≡ true) × (c ≡ k → ⊥)
without_line k c p [] h = absurd (false≢true h)
without_line k c p (l ∷ ls) h = go (cases_Bool (eqb l.child k)) (without_line k c p ls)
  where
    go : (eqb l.child k ≡ true) ⊎ (eqb l.child k ≡ false) →
        (has_line c p (without k ls) ≡ true → (has_line c p ls ≡ true) × (c ≡ k → ⊥)) → (has_line c p (l ∷ ls) ≡ true) × (c ≡ k → ⊥)
    go (inl e) rest = let q = rest (rw e at h) in (line_later l ls c p q.0, q.1)
    go (inr e) rest =
        elim (line_cases l (without k ls) c p (rw e at h)) [
          | inl q ↦ (line_here l ls c p q.0 q.1, λ same. eqb-false l.child k e (q.0 ∙ same))
          | inr q ↦ let r = rest q in (line_later l ls c p r.0, r.1)
        ]

-- a line that starts at another kind is left
without_keeps : (k c p : ℕ) (ls : List Line) → (c ≡ k → ⊥) → has_line c p ls ≡ true → has_line c p (without k ls) ≡ true
without_keeps k c p [] ne h = h
without_keeps k c p (l ∷ ls) ne h = go (cases_Bool (eqb l.child k)) (without_keeps k c p ls ne)
  where
    go : (eqb l.child k ≡ true) ⊎ (eqb l.child k ≡ false) →
        (has_line c p ls ≡ true → has_line c p (without k ls) ≡ true) → has_line c p (without k (l ∷ ls)) ≡ true
    go (inl e) rest =
        elim (line_cases l ls c p h) [
          | inl q ↦ absurd (ne (sym q.0 ∙ eqb-true l.child k e))
          | inr q ↦ rw e (rest q)
        ]
    go (inr e) rest =
        elim (line_cases l ls c p h) [
          | inl q ↦ rw e (line_here l (without k ls) c p q.0 q.1)
          | inr q ↦ rw e (line_later l (without k ls) c p (rest q))
        ]

without_length : (k : ℕ) (ls : List Line) → length (without k ls) ≤ length ls
without_length k [] = omega arith
without_length k (l ∷ ls) =
    let rest = without_length k ls in
    elim (cases_Bool (eqb l.child k)) [ inl e ↦ rw e (omega arith) | inr e ↦ rw e (omega arith) ]

-- where a line starts at k, fewer are left
without_shorter : (k p : ℕ) (ls : List Line) → has_line k p ls ≡ true → length (without k ls) < length ls
without_shorter k p [] h = absurd (false≢true h)
without_shorter k p (l ∷ ls) h = go (cases_Bool (eqb l.child k)) (without_shorter k p ls)
  where
    go : (eqb l.child k ≡ true) ⊎ (eqb l.child k ≡ false) →
        (has_line k p ls ≡ true → length (without k ls) < length ls) → length (without k (l ∷ ls)) < length (l ∷ ls)
    go (inl e) rest = let q = without_length k ls in rw e (omega arith)
    go (inr e) rest =
        elim (line_cases l ls k p h) [
          | inl q ↦ absurd (eqb-false l.child k e q.0)
          | inr q ↦ let r = rest q in rw e (omega arith)
        ]

-- a walk that leaves k leaves it for the last time
leaves : (k : ℕ) {ls : List Line} {a m : ℕ} → Descends ls a m →
    Descends (without k ls) a m ⊎ ((p : ℕ) × (has_line k p ls ≡ true) × Descends (without k ls) p m)
leaves k self = inl self
leaves k {ls} (up {k = a} {p} {m} h d) =
    elim (leaves k d) [
      | inl w ↦
          elim (cases_eq a k) [
            | inl e ↦ inr (p, rw e at h, w)
            | inr ne ↦ inl (up (without_keeps k a p ls ne h) w)
          ]
      | inr w ↦ inr w
    ]

-- a walk from k to another kind, after it leaves k for the last time
departs : (ls : List Line) (k m : ℕ) → (k ≡ m → ⊥) → Descends ls k m →
    (p : ℕ) × (has_line k p ls ≡ true) × Descends (without k ls) p m
departs ls k m ne d =
    elim (leaves k d) [
      | inl w ↦
          elim (descends_leads w) [
            | inl e ↦ absurd (ne e)
            | inr up_from ↦
                let q = leads_first up_from in absurd ((without_line k k q.0 ls q.1).1 refl)
          ]
      | inr w ↦ w
    ]

-- lines lead from a to each of the list in turn, and the last is m
abbrev pub Walk : List Line → ℕ → List ℕ → ℕ → Type 0
Walk ls a [] m = a ≡ m
Walk ls a (b ∷ bs) m = (has_line a b ls ≡ true) × Walk ls b bs m

-- a walk that meets no kind twice
pub record Path (ls : List Line) (a m : ℕ) : Type 0 where
  pub kinds : List ℕ
  pub walk : Walk ls a kinds m
  pub apart : Distinct (a ∷ kinds)
  pub short : length kinds ≤ length ls

walk_more : (k : ℕ) (ls : List Line) (a m : ℕ) (xs : List ℕ) → Walk (without k ls) a xs m → Walk ls a xs m
walk_more k ls a m [] w = w
walk_more k ls a m (b ∷ bs) w = ((without_line k a b ls w.0).0, walk_more k ls b m bs w.1)

-- without the lines that start at k, a walk to another kind does not meet k
walk_avoids : (k : ℕ) (ls : List Line) (a m : ℕ) (xs : List ℕ) → (k ≡ m → ⊥) → Walk (without k ls) a xs m → stands k (a ∷ xs) ≡ false
walk_avoids k ls a m [] ne w = or_from (eqb a k) false (ne_eqb a k (λ e. ne (sym e ∙ w))) refl
walk_avoids k ls a m (b ∷ bs) ne w =
    or_from (eqb a k) (stands k (b ∷ bs)) (ne_eqb a k (without_line k a b ls w.0).1)
    (walk_avoids k ls b m bs ne w.1)

path_here : (ls : List Line) (a m : ℕ) → a ≡ m → Path ls a m
path_here ls a m e = record { kinds = []; walk = e; apart = distinct_one a; short = omega arith }

path_from : (ls : List Line) (a p m : ℕ) → (a ≡ m → ⊥) → has_line a p ls ≡ true → length (without a ls) < length ls →
    Path (without a ls) p m → Path ls a m
path_from ls a p m ne h fewer q = record {
  kinds = p ∷ q.kinds;
  walk = (h, walk_more a ls p m q.kinds q.walk);
  apart = distinct_more a (p ∷ q.kinds) (walk_avoids a ls p m q.kinds ne q.walk) q.apart;
  short = let few = q.short in omega arith;
}

-- by the number of lines
path_in : (n : ℕ) (ls : List Line) (a m : ℕ) → length ls ≤ n → Descends ls a m → Path ls a m
path_in zero ls a m fits d =
    elim (cases_eq a m) [
      | inl e ↦ path_here ls a m e
      | inr ne ↦
          let q = departs ls a m ne d in
          let fewer = without_shorter a q.0 ls q.1 in
          absurd (omega arith)
    ]
path_in (suc n) ls a m fits d =
    elim (cases_eq a m) [
      | inl e ↦ path_here ls a m e
      | inr ne ↦
          let q = departs ls a m ne d in
          let fewer = without_shorter a q.0 ls q.1 in
          path_from ls a q.0 m ne q.1 fewer (path_in n (without a ls) q.0 m (omega arith) q.2)
    ]

-- each walk can be shortened to meet no kind twice
pub path : (ls : List Line) (k m : ℕ) → Descends ls k m → Path ls k m
path ls k m d = path_in (length ls) ls k m (omega arith) d

pub walk_descends : (ls : List Line) (a m : ℕ) (xs : List ℕ) → Walk ls a xs m → Descends ls a m
walk_descends ls a m [] w = descends_refl a m w
walk_descends ls a m (b ∷ bs) w = up w.0 (walk_descends ls b m bs w.1)

-- the test for a parent, and the lines
some_parent_lem : (k : ℕ) (test : ℕ → Bool) (ls : List Line) → some_parent k test ls ≡ true →
    (p : ℕ) × (has_line k p ls ≡ true) × (test p ≡ true)
some_parent_lem k test [] h = absurd (false≢true h)
some_parent_lem k test (l ∷ ls) h =
    elim (or_cases (eqb l.child k && test l.parent) (some_parent k test ls) h) [
      | inl e ↦
          let q = and_parts (eqb l.child k) (test l.parent) e in
          (l.parent, line_here l ls k l.parent (eqb-true l.child k q.0) refl, q.1)
      | inr e ↦ let q = some_parent_lem k test ls e in (q.0, line_later l ls k q.0 q.1, q.2)
    ]

parent_some : (k p : ℕ) (test : ℕ → Bool) (ls : List Line) → has_line k p ls ≡ true → test p ≡ true → some_parent k test ls ≡ true
parent_some k p test [] h t = h
parent_some k p test (l ∷ ls) h t =
    elim (line_cases l ls k p h) [
      | inl e ↦
          or_left (eqb l.child k && test l.parent) (some_parent k test ls)
          (and_from (eqb l.child k) (test l.parent) (eq-eqb l.child k e.0) (rw e.1 t))
      | inr e ↦ or_right (eqb l.child k && test l.parent) (some_parent k test ls) (parent_some k p test ls e t)
    ]

pub reaches-descends : (n : ℕ) (ls : List Line) (k m : ℕ) → reaches n ls k m ≡ true → Descends ls k m
reaches-descends zero ls k m h = descends_refl k m (eqb-true k m h)
reaches-descends (suc n) ls k m h =
    elim (or_cases (eqb k m) (some_parent k (λ p. reaches n ls p m) ls) h) [
      | inl e ↦ descends_refl k m (eqb-true k m e)
      | inr e ↦
          let q = some_parent_lem k (λ p. reaches n ls p m) ls e in
          up q.1 (reaches-descends n ls q.0 m q.2)
    ]

walk_reaches : (n : ℕ) (ls : List Line) (k m : ℕ) (xs : List ℕ) → length xs ≤ n → Walk ls k xs m → reaches n ls k m ≡ true
walk_reaches zero ls k m [] fits w = eq-eqb k m w
walk_reaches (suc n) ls k m [] fits w = or_left (eqb k m) (some_parent k (λ p. reaches n ls p m) ls) (eq-eqb k m w)
walk_reaches zero ls k m (b ∷ bs) fits w = absurd (omega arith)
walk_reaches (suc n) ls k m (b ∷ bs) fits w =
    or_right (eqb k m) (some_parent k (λ p. reaches n ls p m) ls)
    (parent_some k b (λ p. reaches n ls p m) ls w.0 (walk_reaches n ls b m bs (omega arith) w.1))

pub descends_decided : DescendsDecided
descends_decided ls k m = (
  reaches-descends (length ls) ls k m,
  λ d. let q = path ls k m d in walk_reaches (length ls) ls k m q.kinds q.short q.walk,
)

-- a kind descends from as many kinds, or more, by more lines
pub descends_by_more : {ls ms : List Line} → ((c p : ℕ) → has_line c p ls ≡ true → has_line c p ms ≡ true) →
    {k m : ℕ} → Descends ls k m → Descends ms k m
descends_by_more more-lines self = self
descends_by_more more-lines (up {k} {p} {m} h d) = up (more-lines k p h) (descends_by_more more-lines d)

-- where the same lines stand, in whatever order, the test answers the same
pub descends_alike : (ls ms : List Line) → ((c p : ℕ) → has_line c p ls ≡ has_line c p ms) →
    (k m : ℕ) → descends ls k m ≡ descends ms k m
descends_alike ls ms same k m =
    same_from_decides (descends ls k m) (descends ms k m) (descends_decided ls k m)
    (Decides-like (descends ms k m) (descends_by_more (λ c p h. same c p ∙ h)) (descends_by_more (λ c p h. sym (same c p) ∙ h))
    (descends_decided ms k m))
