-- A fixed array that is filled further.
use Rattle.std.proofs.Common.{◌≡◌, ℕ, ◌+◌, ◌-◌, ◌≤◌, List, length, take, drop, replicate, sym, ap, ◌∙◌, arith}
use Rattle.std.proofs.lemmas.List.{length-take-le, drop-drop, drop-replicate}
use Rattle.packets.specs.declared.bounds.Bounds.TheInside.{Inside}
use Rattle.packets.specs.Filling.{IsFilled}

pub bounds_count : (b : Inside) (xs : List ℕ) → IsFilled b → take b.len b.at ≡ xs → length xs ≡ b.len
bounds_count b xs h e = sym (ap length e) ∙ length-take-le b.len b.at (omega (arith, h.whole, h.few))

pub clear_from : (b : Inside) (n : ℕ) → IsFilled b → b.len ≤ n → drop n b.at ≡ replicate (512 - n) 0
clear_from b n h l =
    let parts : b.len + (n - b.len) ≡ n = omega arith in
    let left : 512 - b.len - (n - b.len) ≡ 512 - n = omega arith in
    ap (λ (k : ℕ). drop k b.at) (sym parts) ∙ sym (drop-drop (n - b.len) b.len b.at) ∙ ap (drop (n - b.len)) h.clear
    ∙ drop-replicate (n - b.len) (512 - b.len) 0 ∙ ap (λ (k : ℕ). replicate k 0) left
