-- How the fields of a line go on, field by field.
use Rattle.std.proofs.Common.{◌≡◌, ℕ, ◌<◌, Bool, true, false, not, List, [], ◌∷◌, ◌++◌, length, take, drop, sym, refl, ap, ◌∙◌, append_assoc, append-nil, arith}
use Rattle.std.specs.List.{prefix_len}
use Rattle.std.proofs.Math.Numerals.{one-add}
use Rattle.std.proofs.lemmas.Bool.{or_parts, or_from}
use Rattle.terminal.specs.Fields.{is_space, any_space, whole, fields_after, fields}

-- a byte of a field
abbrev pub is_plain : ℕ → Bool
is_plain byte = not (is_space byte)

-- a line from its first field on, that field where it is first, and what follows it
abbrev pub text : List ℕ → List ℕ
text line = drop (prefix_len is_space line) line

abbrev pub field : List ℕ → List ℕ
field line = take (prefix_len is_plain line) line

abbrev pub behind : List ℕ → List ℕ
behind line = drop (prefix_len is_plain line) line

-- spaces before a field are passed over
pub fields_text : (line : List ℕ) → fields (text line) ≡ fields line
fields_text [] = refl
fields_text (byte ∷ line) = by (is_space byte) refl (fields_text line)
  where
    by : (t : Bool) → is_space byte ≡ t → fields (text line) ≡ fields line → fields (text (byte ∷ line)) ≡ fields (byte ∷ line)
    by true e more = rw (e, one-add) more
    by false e more = rw (e, e) refl

-- bytes that are no spaces go to the field that is begun
abbrev pub Runs : List ℕ → List ℕ → Type 0
Runs begun line = fields_after begun line ≡ whole (begun ++ field line) ++ fields (behind line)

pub fields_field : (begun line : List ℕ) → Runs begun line
fields_field begun [] = rw (append-nil begun) (sym (append-nil (whole begun)))
fields_field begun (byte ∷ line) = by (is_space byte) refl (fields_field (begun ++ byte ∷ []) line)
  where
    by : (t : Bool) → is_space byte ≡ t → Runs (begun ++ byte ∷ []) line → Runs begun (byte ∷ line)
    by true e more = rw (e, append-nil, e) refl
    by false e more = rw (e, one-add) (more ∙ ap (λ b. whole b ++ fields (behind line)) (append_assoc begun (byte ∷ []) (field line)))

pub any_space_field : (line : List ℕ) → any_space (field line) ≡ false
any_space_field [] = refl
any_space_field (byte ∷ line) = by (is_space byte) refl (any_space_field line)
  where
    by : (t : Bool) → is_space byte ≡ t → any_space (field line) ≡ false → any_space (field (byte ∷ line)) ≡ false
    by true e more = rw e refl
    by false e more = rw (e, one-add) (or_from _ _ e more)

-- where no field begins, nothing is left
abbrev pub Ends : List ℕ → Type 0
Ends line = prefix_len is_plain (text line) ≡ 0 → text line ≡ []

pub text_empty : (line : List ℕ) → Ends line
text_empty [] z = refl
text_empty (byte ∷ line) z = by (is_space byte) refl (text_empty line) z
  where
    by : (t : Bool) → is_space byte ≡ t → Ends line → Ends (byte ∷ line)
    by true e more = rw (e, one-add) more
    by false e more = λ z. absurd (omega (arith, rw (e, e) at z))

-- a field that is not empty is one
pub whole_some : (begun : List ℕ) → 0 < length begun → whole begun ≡ begun ∷ []
whole_some [] h = absurd (omega arith)
whole_some (byte ∷ begun) h = refl

-- bytes with no space among them go to the field that is begun
pub run_all : (begun run left : List ℕ) → any_space run ≡ false → fields_after begun (run ++ left) ≡ fields_after (begun ++ run) left
run_all begun [] left e = ap (λ b. fields_after b left) (sym (append-nil begun))
run_all begun (x ∷ run) left e =
    let p = or_parts (is_space x) (any_space run) e in
    rw p.0 (run_all (begun ++ x ∷ []) run left p.1 ∙ ap (λ b. fields_after b left) (append_assoc begun (x ∷ []) run))
