-- What setting a catalogue up gives.
use Rattle.std.specs.Prelude.{◌≡◌, ℕ, ◌<◌, ◌≤◌, ◌⊎◌, Ok, Err, Result}
use Rattle.catalogue.specs.declared.state.Catalogue.{Catalogue}
use Rattle.catalogue.specs.declared.enter.SetUpFault.{SetUpFault}
use Rattle.catalogue.specs.declared.enter.SetUpFault.TheVariants.{Width, Memory}
use Rattle.catalogue.specs.Ledger.{blank}
use Rattle.catalogue.specs.View.{view}

-- a new catalogue of 1 to 512 places; any other width is refused; there may be no memory
abbrev pub SetUp : ℕ → Result Catalogue SetUpFault → Type 0
SetUp w (Ok c) = (1 ≤ w) × (w ≤ 512) × ((view c).book ≡ blank w)
SetUp w (Err Width) = (w ≡ 0) ⊎ (512 < w)
SetUp w (Err Memory) = (1 ≤ w) × (w ≤ 512)
