-- What private calls promise of octets and of a source.
use Rattle.std.specs.Prelude.{◌≡◌, ℕ, ◌<◌, List, length, get_or, take, Option, Some, None}
use Rattle.list_core.specs.Cuts.{HasNo}
use Rattle.std.specs.Io.KnownBytes.{Consumes}
use Rattle.list_core.specs.declared.device.InputEnd.{InputEnd}
use Rattle.list_core.specs.declared.device.InputEnd.TheVariants.{Open, End, Failed}
use Rattle.list_core.specs.Device.{GivesOctets}

-- the place of the first c, if it stands anywhere
abbrev pub IsFirstPlace : ℕ → List ℕ → Option ℕ → Type 0
IsFirstPlace c xs None = HasNo c xs
IsFirstPlace c xs (Some i) = (i < length xs) × (get_or xs i 0 ≡ c) × HasNo c (take i xs)

-- these octets were taken, after which the source tells this ending
abbrev pub TakesTo : InputEnd → Option (List ℕ) → Option (List ℕ) → List ℕ → Type 0
TakesTo Failed old new os = GivesOctets old new os
TakesTo End old new os = Consumes old new os
TakesTo Open old new os = Consumes old new os
