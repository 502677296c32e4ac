-- Chains as a walk list has them.
use Rattle.std.specs.Prelude.{ℕ, ◌*◌, List, ◌++◌, length, drop, Option}
use Rattle.reckoning.specs.declared.session.Session.{Session}
use Rattle.reckoning.specs.Lists.{chain}
use Rattle.reckoning.specs.Parts.{Parts}
use Rattle.reckoning.specs.Plans.{next}

-- the chain from `start` on p and q
unfoldable pub chained : Parts → List Session → ℕ → ℕ → Option Session → List Session
chained L ss p q start = chain (next L.group ss p q) (2 * L.plant_groups) start

-- xs written over the first places
abbrev pub laid : List ℕ → List ℕ → List ℕ
laid xs old = xs ++ drop (length xs) old
