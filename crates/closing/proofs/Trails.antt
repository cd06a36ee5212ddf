-- A walk up the lines: what it has met is marked, and once it meets a marked kind it has met a ring.
use Rattle.std.proofs.Common.{◌≡◌, ◌≢◌, ℕ, ◌+◌, ◌-◌, ◌<◌, true, false, cond, eqb, ◌⊎◌, List, [], ◌∷◌, ◌++◌, map, length, get_or, drop, set, replicate, sum_by, sym, ap, ◌∙◌, inl, inr, arith}
use Rattle.std.specs.List.{All, AllPairs}
use Rattle.std.proofs.lemmas.List.Elements.{All-nil, All-push}
use Rattle.std.proofs.lemmas.List.Quantifiers.{all_pairs_push}
use Rattle.std.proofs.lemmas.List.Sums.{sum_by-set}
use Rattle.std.proofs.lemmas.List.Folds.{sum_by-replicate}
use Rattle.std.proofs.Math.Nat.{add-zero, mul-one}
use Rattle.std.proofs.lemmas.List.{get_or_append_left, get_or_push, length_push, get_or-set_same, get_or-set_other, length-set, map_push, get_or-map, length-map, get_or-drop, length-drop, get_or-replicate, length-replicate, get_or_past}
use Rattle.std.proofs.lemmas.Bool.{cases_eq, cases_lt, eq-eqb, or_left, or_right}
use Rattle.descent.specs.declared.standing.Standing.{Standing}
use Rattle.descent.specs.Lines.{serials_of, has_line, stands}
use Rattle.descent.specs.Descent.{descends, LeadsUp}
use Rattle.descent.proofs.Lines.{stands_append}
use Rattle.descent.proofs.Descent.{descends_decided, descends_leads, leads_first}
use Rattle.descent.proofs.Proper.{joining-line}
use Rattle.closing.specs.Direct.{place_of, serial_at}
use Rattle.closing.specs.Marks.{Looped}
use Rattle.closing.proofs.Direct.{serial_of_place, place-below}

-- how many bytes are zero
abbrev pub zeros : List ℕ → ℕ
zeros xs = sum_by (λ x. cond (eqb x 0) 1 0) xs

pub zeros_set : (xs : List ℕ) (i : ℕ) → i < length xs → get_or xs i 0 ≡ 0 → zeros (set xs i 1) + 1 ≡ zeros xs
zeros_set xs i lt e =
    let zero_at : ℕ → ℕ = λ x. cond (eqb x 0) 1 0 in
    let here : zero_at (get_or xs i 0) ≡ 1 = ap zero_at e in
    ap (λ n. zeros (set xs i 1) + n) (sym here) ∙ sum_by-set zero_at xs i 1 0 lt ∙ add-zero (zeros xs)

zeros_replicate : (n : ℕ) → zeros (replicate n 0) ≡ n
zeros_replicate n = sum_by-replicate (λ x. cond (eqb x 0) 1 0) n 0 ∙ mul-one n

module _ (st : Standing) where
  -- kinds met one after the other, each with a line to the next; exactly their places are marked
  pub record Trail (bytes met trail : List ℕ) : Type 0 where
    pub standing : All (λ k. stands k (serials_of st.kinds.now) ≡ true) trail
    pub places : met ≡ map (place_of st.kinds.now) trail
    pub apart : AllPairs (λ k l. k ≢ l) trail
    pub lines : (i : ℕ) → i + 1 < length trail → has_line (get_or trail i 0) (get_or trail (i + 1) 0) st.lines.now ≡ true
    pub marked : All (λ k. get_or bytes (place_of st.kinds.now k) 0 ≡ 1) trail
    pub only : (p : ℕ) → p < length bytes → (get_or bytes p 0 ≡ 0) ⊎ (stands p met ≡ true)
    pub long : length bytes ≡ st.width
    pub few : zeros bytes + length trail ≡ st.width

  -- the kind that the walk comes to next
  pub record Ahead (top : ℕ) (trail : List ℕ) (kind : ℕ) : Type 0 where
    pub standing : stands kind (serials_of st.kinds.now) ≡ true
    pub leads : LeadsUp st.lines.now kind top
    pub link : (n : ℕ) → n + 1 ≡ length trail → has_line (get_or trail n 0) kind st.lines.now ≡ true

  -- how far a walk up to `top` is: the kinds met, and the next
  pub record Walk (top : ℕ) (bytes met : List ℕ) (kind : ℕ) : Type 0 where
    pub trail : List ℕ
    pub behind : Trail bytes met trail
    pub ahead : Ahead top trail kind

  -- a kind that leads up stands
  pub leader_stands : (k m : ℕ) → LeadsUp st.lines.now k m → stands k (serials_of st.kinds.now) ≡ true
  leader_stands k m up =
      let q = leads_first up in (joining-line (serials_of st.kinds.now) st.lines.now st.joins k q.0 q.1).0

  -- the place of the next kind has a byte
  pub place_inside : {top : ℕ} {bytes met : List ℕ} {kind : ℕ} → Walk top bytes met kind → place_of st.kinds.now kind < length bytes
  place_inside {kind = kind} k = let low = place-below st kind k.ahead.standing in omega (arith, k.behind.long)

  -- where the next kind is not marked, fewer kinds are met than there are places
  pub room_left : {top : ℕ} {bytes met : List ℕ} {kind : ℕ} → Walk top bytes met kind →
      get_or bytes (place_of st.kinds.now kind) 0 ≡ 0 → length met < st.width
  room_left {bytes = bytes} {kind = kind} k free =
      let z = zeros_set bytes (place_of st.kinds.now kind) (place_inside k) free in
      let n = ap length k.behind.places ∙ length-map k.trail (place_of st.kinds.now) in
      omega (arith, k.behind.few)

  marked_set : (bytes : List ℕ) (p x : ℕ) → p < length bytes → get_or bytes x 0 ≡ 1 → get_or (set bytes p 1) x 0 ≡ 1
  marked_set bytes p x lt h =
      elim (cases_eq x p) [
        | inl e ↦ rw e (get_or-set_same bytes p 1 0 lt)
        | inr ne ↦ get_or-set_other bytes p x 1 0 ne ∙ h
      ]

  -- the walk meets the kind ahead
  pub visit : (top : ℕ) (bytes met trail : List ℕ) (kind : ℕ) → Trail bytes met trail → Ahead top trail kind →
      get_or bytes (place_of st.kinds.now kind) 0 ≡ 0 →
      Trail (set bytes (place_of st.kinds.now kind) 1) (met ++ place_of st.kinds.now kind ∷ []) (trail ++ kind ∷ [])
  visit top bytes met trail kind t a free =
      let at = place_of st.kinds.now kind in
      let low = place-below st kind a.standing in
      let inside : at < length bytes = omega (arith, t.long) in
      let z = zeros_set bytes at inside free in
      let more = length_push trail kind in
      record {
        standing = All-push (λ k. stands k (serials_of st.kinds.now) ≡ true) trail kind t.standing a.standing;
        places = ap (λ xs. xs ++ at ∷ []) t.places ∙ sym (map_push (place_of st.kinds.now) trail kind);
        apart = all_pairs_push (λ k l. k ≢ l) trail kind t.apart
            (λ i d h e.
            let one = t.marked i d h in
            let eq = ap (λ x. get_or bytes (place_of st.kinds.now x) 0) e in
            omega arith);
        lines = λ i lt.
            let hi : i < length trail = omega arith in
            elim (cases_lt (i + 1) (length trail)) [
              | inl hj ↦ rw (get_or_append_left trail (kind ∷ []) 0 i hi, get_or_append_left trail (kind ∷ []) 0 (i + 1) hj) (t.lines i hj)
              | inr hj ↦
                  let ej : length trail ≡ i + 1 = omega arith in
                  rw (get_or_append_left trail (kind ∷ []) 0 i hi, get_or_push trail kind 0 (i + 1) ej) (a.link i (sym ej))
            ];
        marked = All-push (λ k. get_or (set bytes at 1) (place_of st.kinds.now k) 0 ≡ 1) trail kind
            (λ i d h. marked_set bytes at (place_of st.kinds.now (get_or trail i d)) inside (t.marked i d h))
            (get_or-set_same bytes at 1 0 inside);
        only = λ p lt.
            elim (cases_eq p at) [
              | inl e ↦ inr (stands_append p met (at ∷ []) ∙ or_right (stands p met) (stands p (at ∷ [])) (or_left (eqb at p) false (eq-eqb at p (sym e))))
              | inr ne ↦
                  let short : p < length bytes = simp length-set at lt in
                  elim (t.only p short) [
                    | inl z ↦ inl (get_or-set_other bytes at p 1 0 ne ∙ z)
                    | inr s ↦ inr (stands_append p met (at ∷ []) ∙ or_left (stands p met) (stands p (at ∷ [])) s)
                  ]
            ];
        long = length-set bytes at 1 ∙ t.long;
        few = omega (arith, t.few);
      }

  -- kinds have places of their own
  same_kind : (x y : ℕ) → stands x (serials_of st.kinds.now) ≡ true → stands y (serials_of st.kinds.now) ≡ true →
      place_of st.kinds.now x ≡ place_of st.kinds.now y → x ≡ y
  same_kind x y hx hy e = sym (serial_of_place st x hx) ∙ ap (serial_at st.kinds.now) e ∙ serial_of_place st y hy

  -- a kind that is marked already closes a ring
  pub closes : (top : ℕ) (bytes met : List ℕ) (next : ℕ) → Walk top bytes met next →
      (get_or bytes (place_of st.kinds.now next) 0 ≡ 0 → ⊥) → Looped st.kinds.now st.lines.now met (place_of st.kinds.now next)
  closes top bytes met next k set_there =
      let ks = st.kinds.now in
      let t = k.behind in
      let xs = k.trail in
      let low = place-below st next k.ahead.standing in
      let n : length met ≡ length xs = rw t.places (length-map xs (place_of ks)) in
      let end = length xs - 1 in
      let found : (s : ℕ) → s < length met → get_or met s 0 ≡ place_of ks next → get_or xs s 0 ≡ next =
      λ s lt e.
      let hs : s < length xs = omega arith in
      let there : place_of ks (get_or xs s 0) ≡ place_of ks next =
      sym (get_or-map (place_of ks) xs s 0 0 hs) ∙ sym (ap (λ ys. get_or ys s 0) t.places) ∙ e in
      same_kind (get_or xs s 0) next (t.standing s 0 hs) k.ahead.standing there in
      record {
        trail = xs;
        standing = λ i lt. t.standing i 0 lt;
        places = t.places;
        again = elim (t.only (place_of ks next) (place_inside k)) [ inl z ↦ absurd (set_there z) | inr s ↦ s ];
        ring = λ s lt e.
            let start = found s lt e in
            let size = length-drop s xs in
            let line = k.ahead.link end (omega arith) in
            let two : s < end = elim (cases_lt s end) [
              | inl hs ↦ hs
              | inr hs ↦
                  let es : end ≡ s = omega arith in
                  absurd ((joining-line (serials_of ks) st.lines.now st.joins (get_or xs end 0) next line).2 (ap (λ i. get_or xs i 0) es ∙ start))
            ] in
            record {
              two = omega arith;
              different = λ i j l hj same. t.apart (s + i) (s + j) 0 (omega arith) (omega arith) (rw (get_or-drop s xs i 0, get_or-drop s xs j 0) at same);
              next = λ i l.
                  let assoc : s + (i + 1) ≡ (s + i) + 1 = omega arith in
                  rw (get_or-drop s xs i 0, get_or-drop s xs (i + 1) 0, assoc) (t.lines (s + i) (omega arith));
              round =
                  let last : s + (length (drop s xs) - 1) ≡ end = omega arith in
                  let none : s + 0 ≡ s = omega arith in
                  rw (get_or-drop s xs (length (drop s xs) - 1) 0, get_or-drop s xs 0 0, last, none, start) line;
            };
      }

  -- before the walk nothing is met, and nothing marked
  pub setting_out : (top : ℕ) (bytes met : List ℕ) → LeadsUp st.lines.now top top →
      bytes ≡ replicate st.width 0 → met ≡ [] → Walk top bytes met top
  setting_out top bytes met up eb em = record {
    trail = [];
    behind = record {
      standing = All-nil _;
      places = em;
      apart = λ i j d lt h e. omega arith;
      lines = λ i lt. absurd (omega arith);
      marked = All-nil _;
      only = λ p lt. inl (zero-at p);
      long = ap length eb ∙ length-replicate st.width 0;
      few = let z : zeros bytes ≡ st.width = ap zeros eb ∙ zeros_replicate st.width in omega arith;
    };
    ahead = record { standing = leader_stands top top up; leads = up; link = λ n e. absurd (omega arith) };
  }
    where
      zero-at : (p : ℕ) → get_or bytes p 0 ≡ 0
      zero-at p =
          elim (cases_lt p st.width) [
            | inl lt ↦ rw eb (get_or-replicate st.width p 0 0 lt)
            | inr le ↦ rw eb (get_or_past (replicate st.width 0) p 0 (simp length-replicate le))
          ]

  -- a turn of the walk: the place is marked and pushed, and a parent lies ahead that leads on
  pub goes_on : (top : ℕ) (bytes met : List ℕ) (kind place : ℕ) (bytes' met' : List ℕ) (next : ℕ) → Walk top bytes met kind →
      LeadsUp st.lines.now top top → place ≡ place_of st.kinds.now kind → get_or bytes place 0 ≡ 0 →
      bytes' ≡ set bytes place 1 → met' ≡ met ++ place ∷ [] →
      has_line kind next st.lines.now ≡ true → descends st.lines.now next top ≡ true → Walk top bytes' met' next
  goes_on top bytes met kind place bytes' met' next k round ep free eb em line on = record {
    trail = k.trail ++ kind ∷ [];
    behind = rw (em, eb, ep) (visit top bytes met k.trail kind k.behind k.ahead (rw ep at free));
    ahead = record {
      standing = (joining-line (serials_of st.kinds.now) st.lines.now st.joins kind next line).1;
      leads = elim (descends_leads ((descends_decided st.lines.now next top).0 on)) [ inl e ↦ rw e round | inr up ↦ up ];
      link = λ n e. let more = length_push k.trail kind in let last : length k.trail ≡ n = omega arith in rw (get_or_push k.trail kind 0 n last) line;
    };
  }

  -- and fewer bytes are zero
  pub fewer_zeros : (top : ℕ) (bytes met : List ℕ) (kind place : ℕ) (bytes' : List ℕ) → Walk top bytes met kind →
      place ≡ place_of st.kinds.now kind → get_or bytes place 0 ≡ 0 → bytes' ≡ set bytes place 1 → zeros bytes' < zeros bytes
  fewer_zeros top bytes met kind place bytes' k ep free eb =
      let inside = place_inside k in
      let z = zeros_set bytes place (omega arith) free in
      rw eb (omega arith)
