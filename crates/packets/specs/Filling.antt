-- Bounds as they fill a fixed array from the front.
use Rattle.std.specs.Prelude.{◌≡◌, ℕ, ◌-◌, ◌≤◌, List, ◌++◌, length, take, drop, replicate}
use Rattle.std.proofs.Common.{sym, ap, ◌∙◌, arith}
use Rattle.std.proofs.lemmas.List.{length-take-le, take-append-drop}
use Rattle.packets.specs.declared.bounds.Bounds.TheInside.{Inside}

-- 0 stands at each place past the bounds
pub record IsFilled (b : Inside) : Type 0 where
  pub whole : length b.at ≡ 512
  pub few : b.len ≤ 512
  pub clear : drop b.len b.at ≡ replicate (512 - b.len) 0

abbrev pub filled : List ℕ → Inside
filled xs = record { at = xs ++ replicate (512 - length xs) 0; len = length xs }

pub filled_back : (b : Inside) → IsFilled b → filled (take b.len b.at) ≡ b
filled_back b h =
    let count : length (take b.len b.at) ≡ b.len = length-take-le b.len b.at (omega (arith, h.whole, h.few)) in
    let all : take b.len b.at ++ replicate (512 - length (take b.len b.at)) 0 ≡ b.at =
    ap (λ (n : ℕ). take b.len b.at ++ replicate (512 - n) 0) count ∙ ap (λ ys. take b.len b.at ++ ys) (sym h.clear) ∙ take-append-drop b.len b.at in
    λ i. record { at = all i; len = count i }
