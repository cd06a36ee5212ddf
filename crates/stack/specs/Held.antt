-- What a stack holds, and over which slots it lies.
use Rattle.std.specs.Prelude.{◌≡◌, ℕ, List, length, take, drop}
use Rattle.stack.specs.declared.lent.Stack.{Stack}

-- the entries, the lowest first
abbrev pub held : {X : Type 0} → Stack X → List X
held s = take s.depth s.slots.now

-- how many entries there is room for
abbrev pub room : {X : Type 0} → Stack X → ℕ
room s = length s.slots.now

-- both lie over the same lent slots
abbrev pub SameSlots : {X : Type 0} → Stack X → Stack X → Type 0
SameSlots old new = (new.slots.ghost_name ≡ old.slots.ghost_name) × (room new ≡ room old)

-- the slots beyond the entries stay
abbrev pub SameBeyond : {X : Type 0} → Stack X → Stack X → Type 0
SameBeyond old new = drop new.depth new.slots.now ≡ drop new.depth old.slots.now
