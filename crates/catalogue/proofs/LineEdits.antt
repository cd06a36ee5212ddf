-- What entering and withdrawing a line keep true of the lines.
use Rattle.std.proofs.Common.{◌≡◌, ℕ, zero, suc, ◌+◌, ◌*◌, ◌^◌, ◌<◌, ◌≤◌, Bool, true, false, not, ◌&&◌, eqb, List, [], ◌∷◌, map, length, get_or, None, Ok, Err, filter, sym, refl, ◌∙◌, ap₂, ⊎_elim, arith}
use Rattle.std.specs.List.{insert, remove}
use Rattle.std.proofs.lemmas.List.{length-map, get_or-map}
use Rattle.std.proofs.lemmas.Bool.{and_parts, and_from, or_from, or_left, or_right, eqb-true, eq-eqb, not-false, not_from_true, not_from_false, cases_lt, cases_Bool}
use Rattle.descent.specs.declared.line.Line.{Line}
use Rattle.descent.specs.Lines.{stands, has_line}
use Rattle.descent.specs.Order.{rising_from, line_key, filed}
use Rattle.search.specs.Order.{Located}
use Rattle.descent.specs.Proper.{below, joins, joining}
use Rattle.catalogue.specs.declared.state.Catalogue.{Catalogue}
use Rattle.catalogue.specs.Ledger.{Ledger, kind_refusal, ends_refusal}
use Rattle.catalogue.specs.View.{view}
use Rattle.words.specs.declared.refusal.Refusal.{Refusal}
use Rattle.words.specs.declared.refusal.Part.TheVariants as part
use Rattle.words.specs.Refusals.{refusal, refuse_if, serial_refusal}
use Rattle.words.proofs.Chain.{each_passes, not-refused, good_serial}
use Rattle.search.proofs.Spots.{rising_inserted, gap_filed}
use Rattle.descent.proofs.Proper.{rising_later}
use Rattle.descent.proofs.Rows.{left_out, stands-below, joining_inserted}

-- a key tells the line, as its parent is below 2 ^ 32
pub key_tells : (l m : Line) → l.parent < 2 ^ 32 → m.parent < 2 ^ 32 → line_key l ≡ line_key m → (l.child ≡ m.child) × (l.parent ≡ m.parent)
key_tells l m a b e = (omega arith, omega arith)

module _ (ks : List ℕ) (few : below (2 ^ 28) ks ≡ true) where
  small : (l : Line) → joins ks l ≡ true → l.parent < 2 ^ 32
  small l p =
      let q = and_parts (stands l.child ks) (stands l.parent ks && not (eqb l.child l.parent)) p in
      let r = and_parts (stands l.parent ks) (not (eqb l.child l.parent)) q.1 in
      let b = stands-below (2 ^ 28) ks l.parent few r.0 in
      omega arith

  module _ (x : Line) (tight : x.parent < 2 ^ 32) where
    same : Line → Bool
    same l = eqb l.child x.child && eqb l.parent x.parent

    line_here : (ls : List Line) (i : ℕ) → joining ks ls ≡ true → Located (map line_key ls) (line_key x) (Ok i) → has_line x.child x.parent ls ≡ true
    line_here [] i j h = absurd (omega (arith, h.0))
    line_here (l ∷ ls) zero j h =
        let p = and_parts (joins ks l) (joining ks ls) j in
        let t = key_tells l x (small l p.0) tight h.1 in
        or_left (eqb l.child x.child && eqb l.parent x.parent) (has_line x.child x.parent ls)
        (and_from (eqb l.child x.child) (eqb l.parent x.parent) (eq-eqb l.child x.child t.0) (eq-eqb l.parent x.parent t.1))
    line_here (l ∷ ls) (suc i) j h =
        let p = and_parts (joins ks l) (joining ks ls) j in
        or_right (eqb l.child x.child && eqb l.parent x.parent) (has_line x.child x.parent ls) (line_here ls i p.1 (omega (arith, h.0), h.1))

    -- a line whose key differs is another
    pub other-line : (l : Line) → (line_key l ≡ line_key x → ⊥) → (eqb l.child x.child && eqb l.parent x.parent) ≡ false
    other-line l ne =
        ⊎_elim
        (λ (e : (eqb l.child x.child && eqb l.parent x.parent) ≡ true).
        let p = and_parts (eqb l.child x.child) (eqb l.parent x.parent) e in
        let c = eqb-true l.child x.child p.0 in
        let d = eqb-true l.parent x.parent p.1 in
        absurd (ne (ap₂ (λ (a b : ℕ). a * 4294967296 + b) c d)))
        (λ e. e)
        (cases_Bool (eqb l.child x.child && eqb l.parent x.parent))

    pub line-gone : (ls : List Line) → ((k : ℕ) → k < length (map line_key ls) → get_or (map line_key ls) k 0 ≡ line_key x → ⊥) → has_line x.child x.parent ls ≡ false
    line-gone [] none = refl
    line-gone (l ∷ ls) none =
        or_from (eqb l.child x.child && eqb l.parent x.parent) (has_line x.child x.parent ls) (other-line l (none 0 (omega arith)))
        (line-gone ls (λ k m. none (suc k) (omega arith)))

    gap-gone : (ls : List Line) (i : ℕ) → Located (map line_key ls) (line_key x) (Err i) → has_line x.child x.parent ls ≡ false
    gap-gone ls i h =
        line-gone ls (λ k m e. ⊎_elim (λ (lt : k < i). omega (arith, h.1 k lt)) (λ (ge : i ≤ k). omega (arith, h.2 k ge m)) (cases_lt k i))

    line-left-out : (ls : List Line) (i : ℕ) → rising_from 0 (map line_key ls) ≡ true → joining ks ls ≡ true → Located (map line_key ls) (line_key x) (Ok i)
        → remove ls i ≡ filter (λ m. not (eqb m.child x.child && eqb m.parent x.parent)) ls
    line-left-out ls i r j h =
        let long = length-map ls line_key in
        let within : i < length ls = omega (arith, h.0) in
        left_out (λ m. not (eqb m.child x.child && eqb m.parent x.parent)) ls i within
        (λ d.
        let l = get_or ls i d in
        let k : line_key l ≡ line_key x = sym (get_or-map line_key ls i d 0 within) ∙ h.1 in
        let t = key_tells l x (small l (proper-at ls i d within j)) tight k in
        not_from_true (eqb l.child x.child && eqb l.parent x.parent)
        (and_from (eqb l.child x.child) (eqb l.parent x.parent) (eq-eqb l.child x.child t.0) (eq-eqb l.parent x.parent t.1)))
        (λ k d l ne.
        not_from_false (eqb (get_or ls k d).child x.child && eqb (get_or ls k d).parent x.parent)
        (other-line (get_or ls k d) (λ e. let f : get_or (map line_key ls) k 0 ≡ line_key x = get_or-map line_key ls k d 0 l ∙ e in
        ⊎_elim (λ (lt : k < i). omega (arith, h.1, rising_later 0 (map line_key ls) r k i lt h.0))
        (λ (ge : i ≤ k). omega (arith, h.1, rising_later 0 (map line_key ls) r i k (omega arith) (omega arith))) (cases_lt k i))))
      where
        proper-at : (ms : List Line) (n : ℕ) (d : Line) → n < length ms → joining ks ms ≡ true → joins ks (get_or ms n d) ≡ true
        proper-at [] n d l g = absurd (omega arith)
        proper-at (m ∷ ms) zero d l g = (and_parts (joins ks m) (joining ks ms) g).0
        proper-at (m ∷ ms) (suc n) d l g = proper-at ms n d (omega arith) (and_parts (joins ks m) (joining ks ms) g).1

-- a kind that passed has a serial in range, and stands
kind_passed : (l : Ledger) (x : ℕ) → kind_refusal l x ≡ None → (0 < x) × (x < 2 ^ 28) × (stands x l.kinds ≡ true)
kind_passed l x e =
    let missing : Refusal = refusal 5 0 part.Kind in
    let q = each_passes (serial_refusal x 0 ∷ refuse_if (not (stands x l.kinds)) missing ∷ []) e in
    let g = good_serial x 0 q.0 in
    (g.0, g.1, not-false (stands x l.kinds) (not-refused (not (stands x l.kinds)) missing q.1.0))

-- the ends of a line that passed stand and differ, and the line's key is above 0
ends_passed : (l : Ledger) (c p : ℕ) → ends_refusal l c p ≡ None
    → (joins l.kinds (record { child = c; parent = p }) ≡ true) × (0 < line_key (record { child = c; parent = p })) × (p < 2 ^ 32)
ends_passed l c p e =
    let own : Refusal = refusal 7 0 part.Line in
    let q = each_passes (kind_refusal l c ∷ kind_refusal l p ∷ refuse_if (eqb c p) own ∷ []) e in
    let u = kind_passed l c q.0 in
    let v = kind_passed l p q.1.0 in (
      and_from (stands c l.kinds) (stands p l.kinds && not (eqb c p)) u.2
          (and_from (stands p l.kinds) (not (eqb c p)) v.2 (not_from_false (eqb c p) (not-refused (eqb c p) own q.1.1.0))),
      omega (arith, u.0),
      omega (arith, v.1),
    )

-- what a look that found a line tells of the lines
pub record LineFound (s : Catalogue) (x : Line) (i : ℕ) : Type 0 where
  pub stands : has_line x.child x.parent (view s).book.lines ≡ true
  pub left : remove (view s).book.lines i ≡ filter (λ m. not (eqb m.child x.child && eqb m.parent x.parent)) (view s).book.lines

-- what a look that found a line's gap tells of them
pub record LineGap (s : Catalogue) (x : Line) (i : ℕ) : Type 0 where
  pub missing : has_line x.child x.parent (view s).book.lines ≡ false
  pub rising : rising_from 0 (insert (map line_key (view s).book.lines) i (line_key x)) ≡ true
  pub joins : joining (view s).book.kinds (insert (view s).book.lines i x) ≡ true
  pub files : insert (view s).book.lines i x ≡ filed line_key x (view s).book.lines

-- a look at the key of a line whose ends passed
module _ (s : Catalogue) (c p i : ℕ) (ok : ends_refusal (view s).book c p ≡ None) {key : ℕ} (is : key ≡ line_key (record { child = c; parent = p })) where
  x : Line
  x = record { child = c; parent = p }

  pub line_found : Located (map line_key (view s).book.lines) key (Ok i) → LineFound s (record { child = c; parent = p }) i
  unfolding x
  line_found at_key =
      let ks = (view s).book.kinds in
      let ls = (view s).book.lines in
      let tight = (ends_passed (view s).book c p ok).2 in
      let look = rw is at at_key in
      record {
        stands = line_here ks s.seats.serials x tight ls i s.joins look;
        left = line-left-out ks s.seats.serials x tight ls i s.lines.rising s.joins look;
      }

  pub line_gap : Located (map line_key (view s).book.lines) key (Err i) → LineGap s (record { child = c; parent = p }) i
  unfolding x
  line_gap at_key =
      let ks = (view s).book.kinds in
      let ls = (view s).book.lines in
      let ends = ends_passed (view s).book c p ok in
      let look = rw is at at_key in
      record {
        missing = gap-gone ks s.seats.serials x ends.2 ls i look;
        rising = rising_inserted 0 (map line_key ls) (line_key x) i s.lines.rising ends.1 look;
        joins = joining_inserted ks ls i x ends.0 s.joins;
        files = gap_filed line_key ls x i look;
      }
