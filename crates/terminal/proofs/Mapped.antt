-- What `map` makes of an array, where its closure computes a function of each element.
use Rattle.std.proofs.Common.{◌≡◌, ℕ, suc, zero, ◌+◌, List, length, map, drop, sym, ap, ◌∙◌, subst, arith}
use Rattle.std.specs.Fn.{Called}
use Rattle.std.specs.Array.{MapsFrom, IsMapOf}
use denote.Param.Members.{Mut}
use Rattle.std.proofs.lemmas.List.{drop_more, drop_all}

module _ {F A B : Type 0} (g : Mut F (A × Unit {0}) B) (h : A → B) (f : F) where
  -- a call gives h of its argument, and leaves the closure as it was
  abbrev pub Computes : Type 0
  Computes = (x : A) (y : B) (q : F) → Called g f (x, tt) y q → (q ≡ f) × (y ≡ h x)

  mapped_from : Computes → (xs : List A) (ys : List B) (i n : ℕ) → length xs ≡ i + n → length ys ≡ i + n → MapsFrom g f xs ys i n → drop i ys ≡ map h (drop i xs)
  mapped_from computes xs ys i zero lx ly m = drop_all i ys (omega arith) ∙ sym (ap (map h) (drop_all i xs (omega arith)))
  mapped_from computes xs ys i (suc n) lx ly m =
      let c = computes m.1 m.2 m.0 m.5 in
      let P : F → Type 0 = λ p. MapsFrom g p xs ys (i + 1) n in
      let more = mapped_from computes xs ys (i + 1) n (omega arith) (omega arith) (subst P c.0 m.6) in
      let y = drop_more ys i m.2 (omega arith) in
      let x = drop_more xs i m.1 (omega arith) in
      rw (y, m.4.0, x, m.3.0, c.1, more)

  pub mapped : (xs : List A) (ys : List B) (n : ℕ) → IsMapOf g f xs ys n → length xs ≡ n → Computes → ys ≡ map h xs
  mapped xs ys n m lx computes = mapped_from computes xs ys 0 n (omega arith) (omega (arith, m.long)) m.each
