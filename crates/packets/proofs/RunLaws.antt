-- What a change of packets owes: room for its bounds, the rule, and its meaning.
use Rattle.std.proofs.Common.{◌≡◌, ℕ, ◌+◌, ◌-◌, ◌<◌, ◌≤◌, Bool, true, cond, not, ◌&&◌, eqb, ltb, leb, List, [], ◌++◌, length, take, drop, sym, ap, ◌∙◌, ap₂, subst, arith}
use Rattle.std.proofs.lemmas.List.{length-append, length-take-le, length-drop, take_rest}
use mathlib.Core.Bool.{beq}
use Rattle.packets.specs.declared.value.Packets.{Packets}
use Rattle.packets.specs.Bounds.{inside, keeps_rule, count_below}
use Rattle.packets.specs.Packets.{bounds_of, packets_have}
use Rattle.packets.specs.Found.{rising}
use Rattle.packets.specs.Parity.{odd}
use Rattle.packets.specs.Rising.{Cut, cut}
use Rattle.packets.proofs.Splice.{only, size, only_length, differs, splice_room, splice-rule, splice-inside}
use Rattle.packets.proofs.Turn.{turn_order, turn_room, turn-rule, turn_inside}

cut_at : (s : Packets) (n k : ℕ) → k ≡ count_below n (bounds_of s) → Cut 512 (bounds_of s) k n
cut_at s n k e = subst (λ (m : ℕ). Cut 512 (bounds_of s) m n) (sym e) (cut 512 0 n (bounds_of s) (rising s))

module _ (s : Packets) (v : Bool) {start stop i j : ℕ} (some : start < stop) (within : stop ≤ 512)
    (at_i : i ≡ count_below start (bounds_of s)) (at_j : j ≡ count_below (stop + 1) (bounds_of s)) where
  abbrev xs : List ℕ
  xs = bounds_of s

  abbrev a : Bool
  a = not (beq (odd i) v)

  abbrev b : Bool
  b = not (beq (odd j) v)

  pub run_room : i + (size a + (size b + (length (bounds_of s) - j))) ≤ 512
  run_room =
      splice_room 512 xs start stop i j v a b some within s.rule (cut_at s start i at_i) (cut_at s (stop + 1) j at_j) (differs (odd i) v) (differs (odd j) v) (omega arith)

  -- the row as the code fills it, step by step: there is room for each, and at the end the rule
  module _ {held r0 r1 : List ℕ} (same : held ≡ xs) (e0 : r0 ≡ []) (e1 : r1 ≡ r0 ++ take i held) where
    count_first : length r1 ≡ i
    count_first = ap length e1 ∙ ap (λ ys. length (ys ++ take i held)) e0 ∙ ap (λ ys. length (take i ys)) same ∙ length-take-le i xs (cut_at s start i at_i).short

    pub room_first : length r1 + size a ≤ 512
    room_first = omega (arith, count_first, run_room)

    module _ {r2 : List ℕ} (e2 : r2 ≡ r1 ++ only a start) where
      count_second : length r2 ≡ i + size a
      count_second = ap length e2 ∙ length-append r1 (only a start) ∙ ap₂ ◌+◌ count_first (only_length a start)

      pub room_second : length r2 + size b ≤ 512
      room_second = omega (arith, count_second, run_room)

      module _ {r3 : List ℕ} (e3 : r3 ≡ r2 ++ only b stop) where
        pub room_rest : length r3 + length (take (length held - j) (drop j held)) ≤ 512
        room_rest =
            let count = ap length e3 ∙ length-append r2 (only b stop) ∙ ap₂ ◌+◌ count_second (only_length b stop) in
            let rest = ap length (take_rest held j) ∙ length-drop j held in
            omega (arith, count, rest, ap length same, run_room)

        module _ (row : List ℕ) (e4 : row ≡ r3 ++ take (length held - j) (drop j held)) where
          filled : row ≡ ((([] ++ take i xs) ++ only a start) ++ only b stop) ++ take (length xs - j) (drop j xs)
          filled = cc

          pub run-rule : keeps_rule 512 row ≡ true
          run-rule =
              splice-rule 512 xs start stop i j v a b some within s.rule (cut_at s start i at_i) (cut_at s (stop + 1) j at_j) (differs (odd i) v) (differs (odd j) v) row filled

          pub run_inside : (p : ℕ) → inside row p ≡ cond (leb start p && ltb p stop) v (packets_have s p)
          run_inside =
              splice-inside 512 xs start stop i j v a b some within s.rule (cut_at s start i at_i) (cut_at s (stop + 1) j at_j) (differs (odd i) v) (differs (odd j) v) row filled

module _ (s : Packets) {i j : ℕ} (at_i : i ≡ count_below 1 (bounds_of s)) (at_j : j ≡ count_below 512 (bounds_of s)) where
  abbrev ys : List ℕ
  ys = bounds_of s

  pub turn_parts : i ≤ j
  turn_parts = turn_order 512 ys i j (omega arith) s.rule (cut_at s 1 i at_i) (cut_at s 512 j at_j)

  module _ {held r0 r1 : List ℕ} (same : held ≡ ys) (e0 : r0 ≡ []) (e1 : r1 ≡ r0 ++ only (eqb i 0) 0) where
    room : size (eqb i 0) + ((j - i) + size (eqb j (length held))) ≤ 512
    room = rw same (turn_room 512 ys i j (omega arith) s.rule (cut_at s 1 i at_i) (cut_at s 512 j at_j) (omega arith))

    count_ahead : length r1 ≡ size (eqb i 0)
    count_ahead = ap length e1 ∙ ap (λ zs. length (zs ++ only (eqb i 0) 0)) e0 ∙ only_length (eqb i 0) 0

    count_middle : length (take (j - i) (drop i held)) ≡ j - i
    count_middle =
        length-take-le (j - i) (drop i held) (omega (arith, length-drop i held, ap length same, (cut_at s 512 j at_j).short))

    pub turn_room_middle : length r1 + length (take (j - i) (drop i held)) ≤ 512
    turn_room_middle = omega (arith, count_ahead, count_middle, room)

    module _ {r2 : List ℕ} (e2 : r2 ≡ r1 ++ take (j - i) (drop i held)) where
      pub turn_room_last : length r2 + size (eqb j (length held)) ≤ 512
      turn_room_last = omega (arith, ap length e2, length-append r1 (take (j - i) (drop i held)), count_ahead, count_middle, room)

      module _ (row : List ℕ) (e3 : row ≡ r2 ++ only (eqb j (length held)) 512) where
        turned : row ≡ ([] ++ only (eqb i 0) 0) ++ take (j - i) (drop i ys) ++ only (eqb j (length ys)) 512
        turned = cc

        pub turn-rule-at : keeps_rule 512 row ≡ true
        turn-rule-at = turn-rule 512 ys i j (omega arith) s.rule (cut_at s 1 i at_i) (cut_at s 512 j at_j) row turned

        pub turn-inside-at : (p : ℕ) → p < 512 → inside row p ≡ not (packets_have s p)
        turn-inside-at = turn_inside 512 ys i j (omega arith) s.rule (cut_at s 1 i at_i) (cut_at s 512 j at_j) row turned
