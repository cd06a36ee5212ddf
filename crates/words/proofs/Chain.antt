-- The first refusal that applies, check by check.
use Rattle.std.proofs.Common.{◌≡◌, ℕ, ◌^◌, ◌<◌, Bool, true, false, eqb, ltb, List, [], ◌∷◌, ◌++◌, Some, None, Option, Result, refl, ap, ◌∙◌, subst, arith}
use Rattle.std.specs.List.{AllByRecursion as All}
use Rattle.words.specs.declared.refusal.Refusal.{Refusal}
use Rattle.std.proofs.lemmas.Bool.{or_parts, or_from, eqb-false, ne_eqb, ltb-false, le-ltb}
use Rattle.words.specs.Refusals.{Says, first_of, refuse_if, bad_serial, serial_refusal}

pub passes : (o : Option Refusal) (later : List (Option Refusal)) (r : Option Refusal) → o ≡ None → first_of later ≡ r → first_of (o ∷ later) ≡ r
passes o later r e h = ap (λ (q : Option Refusal). first_of (q ∷ later)) e ∙ h

pub stops : (o : Option Refusal) (later : List (Option Refusal)) (r : Refusal) → o ≡ Some r → first_of (o ∷ later) ≡ Some r
stops o later r e = ap (λ (q : Option Refusal). first_of (q ∷ later)) e

pub unrefused : (b : Bool) (r : Refusal) → b ≡ false → refuse_if b r ≡ None
unrefused b r e = ap (λ (t : Bool). refuse_if t r) e

pub refuses : (b : Bool) (r : Refusal) → b ≡ true → refuse_if b r ≡ Some r
refuses b r e = ap (λ (t : Bool). refuse_if t r) e

pub not-refused : (b : Bool) (r : Refusal) → refuse_if b r ≡ None → b ≡ false
not-refused true r e = let z : ◌≡◌ {A = ℕ} 0 1 = cc in absurd (omega arith)
not-refused false r e = refl

-- a serial that passes is in range
pub good_serial : (x i : ℕ) → serial_refusal x i ≡ None → (0 < x) × (x < 2 ^ 28)
good_serial x i e =
    let p = or_parts (eqb x 0) (ltb 268435455 x) (not-refused (bad_serial x) _ e) in
    let ne = eqb-false x 0 p.0 in
    let le = ltb-false 268435455 x p.1 in
    (omega (arith, ne), omega arith)

-- and one in range passes
pub serial_passes : (x i : ℕ) → 0 < x → x < 2 ^ 28 → serial_refusal x i ≡ None
serial_passes x i l m = unrefused _ _ (or_from (eqb x 0) (ltb 268435455 x) (ne_eqb x 0 (λ e. omega arith)) (le-ltb 268435455 x (omega arith)))

-- where nothing is to refuse, every check passes
pub all_pass : (o : Option Refusal) (later : List (Option Refusal)) → first_of (o ∷ later) ≡ None → (o ≡ None) × (first_of later ≡ None)
all_pass None later e = (refl, e)
all_pass (Some r) later e = let z : ◌≡◌ {A = ℕ} 0 1 = cc in absurd (omega arith)

-- where nothing is refused, each check passes, and the other way round
pub each_passes : (checks : List (Option Refusal)) → first_of checks ≡ None → All (λ o. o ≡ None) checks
each_passes [] e = tt
each_passes (o ∷ later) e = let p = all_pass o later e in (p.0, each_passes later p.1)

pub all_passed : (checks : List (Option Refusal)) → All (λ o. o ≡ None) checks → first_of checks ≡ None
all_passed [] h = refl
all_passed (o ∷ later) h = passes o later None h.0 (all_passed later h.1)

pub last_check : (o r : Option Refusal) → o ≡ r → first_of (o ∷ []) ≡ r
last_check None r e = e
last_check (Some q) r e = e

pub first_flat : (xs ys : List (Option Refusal)) → first_of (first_of xs ∷ ys) ≡ first_of (xs ++ ys)
first_flat [] ys = refl
first_flat (None ∷ xs) ys = first_flat xs ys
first_flat (Some r ∷ xs) ys = refl

-- a result says the same of equal refusals
pub says_same : {T F : Type 0} (told : F → Refusal) (r : Result T F) (o p : Option Refusal) → o ≡ p → Says told r o → Says told r p
says_same told r o p e h = subst (λ (q : Option Refusal). Says told r q) e h
