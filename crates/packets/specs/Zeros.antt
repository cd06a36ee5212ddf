-- A row of zeros, and the test of one.
use Rattle.std.specs.Prelude.{◌≡◌, ℕ, zero, suc, true, List, [], ◌∷◌, length, replicate, ◌==◌, refl}
use Rattle.std.proofs.Common.{ap₂}
use Rattle.std.proofs.lemmas.Bool.{eqb-true, and_parts}
use Rattle.packets.specs.Packets.{zeros}

pub zeros-replicate : (n : ℕ) → zeros (replicate n 0) ≡ true
zeros-replicate zero = refl
zeros-replicate (suc n) = zeros-replicate n

pub zeros_told : (xs : List ℕ) → zeros xs ≡ true → xs ≡ replicate (length xs) 0
zeros_told [] e = refl
zeros_told (x ∷ xs) e =
    let parts = and_parts (x == 0) (zeros xs) e in
    ap₂ (λ (y : ℕ) (ys : List ℕ). y ∷ ys) (eqb-true x 0 parts.0) (zeros_told xs parts.1)
