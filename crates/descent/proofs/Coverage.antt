-- The tests for covered and uppermost kinds are right, and uppermost kinds are enough.
use Rattle.std.proofs.Common.{◌≡◌, ℕ, Bool, true, false, not, ◌&&◌, ◌||◌, eqb, ◌⊎◌, List, [], ◌∷◌, Decides, sym, refl, ◌∙◌, inl, inr}
use Rattle.std.proofs.lemmas.Bool.{false≢true, and_parts, and_from, or_cases, or_left, or_right, eqb-true, eq-eqb, cases_Bool}
use Rattle.std.proofs.lemmas.Bool.Decides.{Decides-and, Decides-eqb, Decides-like, not_from_Decides, same_from_decides}
use Rattle.descent.specs.declared.line.Line.{Line}
use Rattle.descent.specs.Lines.{stands, has_line}
use Rattle.descent.specs.Descent.{Descends, self, LeadsUp, descends}
use Rattle.descent.specs.Rings.{ringed}
use Rattle.descent.specs.Coverage.{Covered, Uppermost, each_kind, covered, uppermost, CoveredDecided, UppermostDecided, UnderUppermost}
use Rattle.descent.proofs.Descent.{descends_trans, leads_descends, leads_after, descends_leads, descends_decided, descends_by_more}
use Rattle.descent.proofs.Rings.{none_leads_back}

-- the test of each kind says that it holds of every standing one
pub each_decided : (test : ℕ → Bool) (ks : List ℕ) → Decides (each_kind test ks) ((k : ℕ) → stands k ks ≡ true → test k ≡ true)
each_decided test ks = (to ks, from ks)
  where
    to : (xs : List ℕ) → each_kind test xs ≡ true → (k : ℕ) → stands k xs ≡ true → test k ≡ true
    to [] h k s = absurd (false≢true s)
    to (x ∷ xs) h k s =
        let q = and_parts (test x) (each_kind test xs) h in
        elim (or_cases (eqb x k) (stands k xs) s) [
          | inl e ↦ rw (eqb-true x k e) at q.0
          | inr e ↦ to xs q.1 k e
        ]

    from : (xs : List ℕ) → ((k : ℕ) → stands k xs ≡ true → test k ≡ true) → each_kind test xs ≡ true
    from [] h = refl
    from (x ∷ xs) h =
        and_from (test x) (each_kind test xs) (h x (or_left (eqb x x) (stands x xs) (eq-eqb x x refl)))
        (from xs (λ k s. h k (or_right (eqb x k) (stands k xs) s)))

-- a test that asks y only where x holds
decides_implies : {P Q : Type 0} (x y : Bool) → Decides x P → Decides y Q → Decides (not x || y) (P → Q)
decides_implies true y dx dy = (λ e _. dy.0 e, λ f. dy.1 (f (dx.0 refl)))
decides_implies false y dx dy = (λ _ p. absurd (false≢true (dx.1 p)), λ _. refl)

each_like : (test : ℕ → Bool) (ks : List ℕ) (P : ℕ → Type 0) → ((k : ℕ) → Decides (test k) (P k)) →
    Decides (each_kind test ks) ((k : ℕ) → stands k ks ≡ true → P k)
each_like test ks P dec =
    Decides-like (each_kind test ks) (λ h k s. (dec k).0 (h k s)) (λ h k s. (dec k).1 (h k s)) (each_decided test ks)

itself : (b : Bool) → Decides b (b ≡ true)
itself b = (λ e. e, λ e. e)

-- a standing kind that is covered is in the set
pub covered_has : (kinds : List ℕ) (ls : List Line) (set : ℕ → Bool) (k : ℕ) → stands k kinds ≡ true → Covered kinds ls set k → set k ≡ true
covered_has kinds ls set k s c = c k s self

-- and so is what descends from it covered
pub covered-below : (kinds : List ℕ) (ls : List Line) (set : ℕ → Bool) (k m : ℕ) → Descends ls k m → Covered kinds ls set m → Covered kinds ls set k
covered-below kinds ls set k m h c d s below = c d s (descends_trans below h)

pub covered_decided : CoveredDecided
covered_decided kinds ls set k =
    each_like (λ d. not (descends ls d k) || set d) kinds (λ d. Descends ls d k → set d ≡ true)
    (λ d. decides_implies (descends ls d k) (set d) (descends_decided ls d k) (itself (set d)))

pub uppermost_decided : UppermostDecided
uppermost_decided kinds ls set u =
    Decides-like (uppermost kinds ls set u)
    (λ h. record {
      standing = h.0.0;
      inside = h.0.1;
      highest = λ m s c d. h.1 m s (c, d);
    })
    (λ h. ((h.standing, h.inside), λ m s q. h.highest m s q.0 q.1))
    (Decides-and (stands u kinds && covered kinds ls set u) (each_kind test kinds)
    (Decides-and (stands u kinds) (covered kinds ls set u) (itself (stands u kinds)) (covered_decided kinds ls set u))
    (each_like test kinds (λ m. Covered kinds ls set m × Descends ls u m → m ≡ u)
    (λ m.
    decides_implies (covered kinds ls set m && descends ls u m) (eqb m u)
    (Decides-and (covered kinds ls set m) (descends ls u m) (covered_decided kinds ls set m) (descends_decided ls u m))
    (Decides-eqb m u))))
  where
    test : ℕ → Bool
    test m = not (covered kinds ls set m && descends ls u m) || eqb m u

-- a covered kind from which k descends, and which leads up to no covered kind of the list
record Highest (kinds : List ℕ) (ls : List Line) (set : ℕ → Bool) (k : ℕ) (among : List ℕ) : Type 0 where
  top : ℕ
  standing : stands top kinds ≡ true
  inside : Covered kinds ls set top
  above : Descends ls k top
  highest : (m : ℕ) → stands m among ≡ true → Covered kinds ls set m → LeadsUp ls top m → ⊥

module _ (kinds : List ℕ) (ls : List Line) (set : ℕ → Bool) (none : ringed ls ≡ false) (k : ℕ) (s : stands k kinds ≡ true) (c : Covered kinds ls set k) where
  -- one more kind of the list: where it is covered and lies above, it takes the place of the highest so far
  higher : (x : ℕ) (xs : List ℕ) → stands x kinds ≡ true → Highest kinds ls set k xs → Highest kinds ls set k (x ∷ xs)
  higher x xs sx b = go (cases_Bool (covered kinds ls set x && descends ls b.top x))
    where
      both : Decides (covered kinds ls set x && descends ls b.top x) (Covered kinds ls set x × Descends ls b.top x)
      both =
          Decides-and (covered kinds ls set x) (descends ls b.top x) (covered_decided kinds ls set x)
          (descends_decided ls b.top x)

      go : ((covered kinds ls set x && descends ls b.top x) ≡ true) ⊎ ((covered kinds ls set x && descends ls b.top x) ≡ false) →
          Highest kinds ls set k (x ∷ xs)
      go (inl e) =
          let q = both.0 e in
          record {
            top = x;
            standing = sx;
            inside = q.0;
            above = descends_trans b.above q.1;
            highest = λ m sm cm w.
                elim (or_cases (eqb x m) (stands m xs) sm) [
                  | inl same ↦ none_leads_back ls none x (rw (← eqb-true x m same) at w)
                  | inr later ↦ b.highest m later cm (leads_after q.1 w)
                ];
          }
      go (inr e) = record {
        top = b.top;
        standing = b.standing;
        inside = b.inside;
        above = b.above;
        highest = λ m sm cm w.
            elim (or_cases (eqb x m) (stands m xs) sm) [
              | inl same ↦
                  not_from_Decides (covered kinds ls set x && descends ls b.top x) both e
                  (rw (← eqb-true x m same) at cm, leads_descends (rw (← eqb-true x m same) at w))
              | inr later ↦ b.highest m later cm w
            ];
      }

  highest_among : (xs : List ℕ) → ((m : ℕ) → stands m xs ≡ true → stands m kinds ≡ true) → Highest kinds ls set k xs
  highest_among [] within = record {
    top = k;
    standing = s;
    inside = c;
    above = self;
    highest = λ m sm _ _. false≢true sm;
  }
  highest_among (x ∷ xs) within =
      higher x xs (within x (or_left (eqb x x) (stands x xs) (eq-eqb x x refl)))
      (highest_among xs (λ m sm. within m (or_right (eqb x m) (stands m xs) sm)))

pub under_uppermost : UnderUppermost
under_uppermost kinds ls set none k s c =
    let b = highest_among kinds ls set none k s c kinds (λ m sm. sm) in (
      b.top,
      record {
        standing = b.standing;
        inside = b.inside;
        highest = λ m sm cm d. elim (descends_leads d) [ inl e ↦ sym e | inr w ↦ absurd (b.highest m sm cm w) ];
      },
      b.above,
    )

-- the same kinds and lines stand, in whatever order, and the two sets have the same standing kinds
pub record Alike (ks : List ℕ) (ls : List Line) (s : ℕ → Bool) (js : List ℕ) (ms : List Line) (t : ℕ → Bool) : Type 0 where
  pub kinds : (k : ℕ) → stands k ks ≡ stands k js
  pub lines : (c p : ℕ) → has_line c p ls ≡ has_line c p ms
  pub sets : (k : ℕ) → stands k ks ≡ true → s k ≡ t k

module _ {ks : List ℕ} {ls : List Line} {s : ℕ → Bool} {js : List ℕ} {ms : List Line} {t : ℕ → Bool} where
  alike_sym : Alike ks ls s js ms t → Alike js ms t ks ls s
  alike_sym a = record {
    kinds = λ k. sym (a.kinds k);
    lines = λ c p. sym (a.lines c p);
    sets = λ k h. sym (a.sets k (a.kinds k ∙ h));
  }

  -- descent by the second lines is descent by the first
  descent_back : Alike ks ls s js ms t → {k m : ℕ} → Descends ms k m → Descends ls k m
  descent_back a d = descends_by_more (λ c p h. a.lines c p ∙ h) d

  covered_moved : Alike ks ls s js ms t → (k : ℕ) → Covered ks ls s k → Covered js ms t k
  covered_moved a k c d h w = let f = a.kinds d ∙ h in sym (a.sets d f) ∙ c d f (descent_back a w)

pub covered_alike : {ks : List ℕ} {ls : List Line} {s : ℕ → Bool} {js : List ℕ} {ms : List Line} {t : ℕ → Bool} →
    Alike ks ls s js ms t → (k : ℕ) → covered ks ls s k ≡ covered js ms t k
covered_alike {ks} {ls} {s} {js} {ms} {t} a k =
    same_from_decides (covered ks ls s k) (covered js ms t k)
    (Decides-like (covered ks ls s k) (covered_moved a k) (covered_moved (alike_sym a) k) (covered_decided ks ls s k))
    (covered_decided js ms t k)

uppermost_moved : {ks : List ℕ} {ls : List Line} {s : ℕ → Bool} {js : List ℕ} {ms : List Line} {t : ℕ → Bool} →
    Alike ks ls s js ms t → (u : ℕ) → Uppermost ks ls s u → Uppermost js ms t u
uppermost_moved a u h = record {
  standing = sym (a.kinds u) ∙ h.standing;
  inside = covered_moved a u h.inside;
  highest = λ m sm cm d.
      h.highest m (a.kinds m ∙ sm) (covered_moved (alike_sym a) m cm) (descent_back a d);
}

pub uppermost_alike : {ks : List ℕ} {ls : List Line} {s : ℕ → Bool} {js : List ℕ} {ms : List Line} {t : ℕ → Bool} →
    Alike ks ls s js ms t → (u : ℕ) → uppermost ks ls s u ≡ uppermost js ms t u
uppermost_alike {ks} {ls} {s} {js} {ms} {t} a u =
    same_from_decides (uppermost ks ls s u) (uppermost js ms t u)
    (Decides-like (uppermost ks ls s u) (uppermost_moved a u) (uppermost_moved (alike_sym a) u) (uppermost_decided ks ls s u))
    (uppermost_decided js ms t u)
