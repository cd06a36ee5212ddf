-- The fields of a line: its longest runs of bytes that are not spaces.
use Rattle.std.specs.Prelude.{◌≡◌, ℕ, ◌<◌, Bool, false, cond, ◌||◌, List, [], ◌∷◌, ◌++◌, length, ◌==◌}
use Rattle.terminal.specs.declared.fields.Fields as reader

-- a space, a tab or a carriage return
abbrev pub is_space : ℕ → Bool
is_space byte = byte == 32 || byte == 9 || byte == 13

abbrev pub any_space : List ℕ → Bool
any_space [] = false
any_space (byte ∷ bytes) = is_space byte || any_space bytes

-- a run of bytes is a field unless it is empty
abbrev pub whole : List ℕ → List (List ℕ)
whole [] = []
whole (byte ∷ bytes) = (byte ∷ bytes) ∷ []

-- the fields of a line, of which the bytes of the first are read already as far as `begun`
abbrev pub fields_after : List ℕ → List ℕ → List (List ℕ)
fields_after begun [] = whole begun
fields_after begun (byte ∷ bytes) = cond (is_space byte) (whole begun ++ fields_after [] bytes) (fields_after (begun ++ byte ∷ []) bytes)

abbrev pub fields : List ℕ → List (List ℕ)
fields line = fields_after [] line

-- a byte or more, and no space among them
abbrev pub Plain : List ℕ → Type 0
Plain field = (0 < length field) × (any_space field ≡ false)

-- what a reader has still to read of its line
abbrev pub rest : reader.Fields → List ℕ
rest f = f.left.now

-- the fields that a reader has still to give
abbrev pub fields_left : reader.Fields → List (List ℕ)
fields_left f = fields (rest f)
