-- The answer lines of the protocol, as bytes.
use Rattle.std.specs.Prelude.{ℕ, Bool, true, false, List, [], ◌∷◌, ◌++◌, codes, decimal}
use Rattle.terminal.specs.Lists.{spaced}
use Rattle.words.specs.declared.refusal.Refusal.{Refusal}
use Rattle.words.specs.Refusals.{refusal_text}

abbrev pub line_break : List ℕ
line_break = 10 ∷ []

abbrev pub ok_line : List ℕ
ok_line = codes "ok" ++ line_break

abbrev pub ok_words : List ℕ → List ℕ
ok_words words = codes "ok" ++ spaced words ++ line_break

-- ok yes, ok no
abbrev pub ok_verdict : Bool → List ℕ
ok_verdict true = codes "ok yes" ++ line_break
ok_verdict false = codes "ok no" ++ line_break

-- ok KITS CHANGED
abbrev pub ok_kits : ℕ → ℕ → List ℕ
ok_kits kits changed = codes "ok " ++ decimal kits ++ codes " " ++ decimal changed ++ line_break

abbrev pub refused_line : Refusal → List ℕ
refused_line told = refusal_text told ++ line_break

-- a refusal, then ring WORDS
abbrev pub ring_line : Refusal → List ℕ → List ℕ
ring_line told ring = refusal_text told ++ codes " ring" ++ spaced ring ++ line_break
