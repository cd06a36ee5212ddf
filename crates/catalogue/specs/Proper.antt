-- The places of a catalogue.
use Rattle.std.specs.Prelude.{ℕ, Bool, ◌&&◌, List, length, ◌==◌}
use Rattle.descent.specs.Proper.{below, distinct}

-- the places of the kinds and the free places are the places below w, each once
abbrev pub seated : ℕ → List ℕ → Bool
seated w places = length places == w && (below w places && distinct places)
