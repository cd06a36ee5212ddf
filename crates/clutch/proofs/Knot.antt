-- Every ring of the clutch catalogue with the line 10-50 is 10, 50, 20 from some start.
use Rattle.std.proofs.Common.{◌≡◌, ℕ, zero, suc, ◌+◌, ◌-◌, ◌<◌, true, ◌⊎◌, List, [], ◌∷◌, length, get_or, refl, inl, inr, arith, lit<, lit≤}
use Rattle.std.proofs.lemmas.Bool.{false≢true, cases_lt, cases_eq}
use Rattle.descent.specs.declared.line.Line.{Line}
use Rattle.descent.specs.Lines.{has_line}
use Rattle.descent.specs.Rings.{Ring}
use Rattle.descent.proofs.Lines.{line_cases, distinct_one, distinct_more}
use Rattle.clutch.specs.Clutch.{knotted, line}
use Rattle.clutch.specs.Worked.{Round}

-- each kind of a ring has a line up
ring_up : (ls : List Line) (ring : List ℕ) → Ring ls ring → (i : ℕ) → i < length ring → (p : ℕ) × (has_line (get_or ring i 0) p ls ≡ true)
ring_up ls ring r i h =
    elim (cases_lt (i + 1) (length ring)) [
      | inl more ↦ (get_or ring (i + 1) 0, r.next i more)
      | inr last ↦ let n : length ring - 1 ≡ i = omega arith in (get_or ring 0 0, rw n at r.round)
    ]

-- a line that stands is one of these
abbrev Among : ℕ → ℕ → List Line → Type 0
Among c p [] = ⊥
Among c p (l ∷ ls) = ((l.child ≡ c) × (l.parent ≡ p)) ⊎ Among c p ls

among : (c p : ℕ) (ls : List Line) → has_line c p ls ≡ true → Among c p ls
among c p [] h = false≢true h
among c p (l ∷ ls) h = elim (line_cases l ls c p h) [ inl e ↦ inl e | inr e ↦ inr (among c p ls e) ]

-- the standing lines
abbrev lines : List Line
lines = line 10 50 ∷ line 20 10 ∷ line 30 10 ∷ line 50 20 ∷ line 50 40 ∷ []

-- no kinds have lines both ways
two : (a b : ℕ) → Among a b lines → Among b a lines → ⊥
two a b ab ba = omega arith

-- three lines that come back to their start
three : (a b c : ℕ) → Among a b lines → Among b c lines → Among c a lines → Round (a ∷ b ∷ c ∷ [])
three a b c ab bc ca =
    elim (cases_eq a 10) [
      | inl e ↦ let f : b ≡ 50 = omega arith in let g : c ≡ 20 = omega arith in inl (cc)
      | inr n ↦
          elim (cases_eq a 50) [
            | inl e ↦ let f : b ≡ 20 = omega arith in let g : c ≡ 10 = omega arith in inr (inl (cc))
            | inr m ↦
                let e : a ≡ 20 = omega arith in let f : b ≡ 10 = omega arith in let g : c ≡ 50 = omega arith in inr (inr (cc))
          ]
    ]

-- 30 has no line down and 40 none up, so in a walk through a kind with both the third line comes back to that kind
five : (w a b c d e : ℕ) → Among w a lines → Among a b lines → Among b c lines → Among c d lines → Among d e lines → a ≡ d
five w a b c d e wa ab bc cd de = omega arith

pub only : (ring : List ℕ) → Ring knotted.lines ring → Round ring
only [] r = let n = r.two in absurd (omega arith)
only (a ∷ []) r = let n = r.two in absurd (omega arith)
only (a ∷ b ∷ []) r = absurd (two a b (among a b lines (r.next 0 (lit< tt))) (among b a lines r.round))
only (a ∷ b ∷ c ∷ []) r =
    three a b c (among a b lines (r.next 0 (lit< tt))) (among b c lines (r.next 1 (lit< tt))) (among c a lines r.round)
only (a ∷ b ∷ c ∷ d ∷ rest) r =
    let last = get_or (a ∷ b ∷ c ∷ d ∷ rest) (length (a ∷ b ∷ c ∷ d ∷ rest) - 1) 0 in
    let up = ring_up lines (a ∷ b ∷ c ∷ d ∷ rest) r 3 (omega arith) in
    absurd (r.different 0 3 (lit< tt) (omega arith)
    (five last a b c d up.0
    (among last a lines r.round)
    (among a b lines (r.next 0 (omega arith)))
    (among b c lines (r.next 1 (omega arith)))
    (among c d lines (r.next 2 (omega arith)))
    (among d up.0 lines up.1)))

pub ring : Ring knotted.lines (10 ∷ 50 ∷ 20 ∷ [])
ring = record {
  two = lit≤ tt;
  different = distinct_more 10 (50 ∷ 20 ∷ []) refl (distinct_more 50 (20 ∷ []) refl (distinct_one 20));
  next = next;
  round = refl;
}
  where
    next : (i : ℕ) → i + 1 < 3 → has_line (get_or (10 ∷ 50 ∷ 20 ∷ []) i 0) (get_or (10 ∷ 50 ∷ 20 ∷ []) (i + 1) 0) lines ≡ true
    next zero h = refl
    next (suc zero) h = refl
    next (suc (suc i)) h = absurd (omega arith)
