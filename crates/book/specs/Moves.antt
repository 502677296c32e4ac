-- What moves with a chain, which session a code names, and what a session adds to a mask.
use Rattle.std.specs.Prelude.{ℕ, ◌/◌, ◌%◌, ◌^◌, cond, ◌&&◌, List, Some, None, Option, ◌==◌, bit_or, nat_lt}
use Rattle.std.specs.Option.{unwrap_or}
use Rattle.reckoning.specs.declared.session.Session.{Session}
use Rattle.reckoning.specs.Lists.{first}
use Rattle.reckoning.specs.Parts.{Parts}
use Rattle.reckoning.specs.Plans.{among, moved}
use Rattle.reckoning.specs.Standing.{leaves}

-- s on its other wavelength, if it is one of the chain
abbrev pub shift : List Session → ℕ → ℕ → Session → Session
shift chain p q s = cond (among chain s) (moved p q s) s

-- what a code that names no session gives
abbrev pub nobody : Session
nobody = record { number = 0; source = 0; destination = 0; wavelength = 0 }

unfoldable pub session_at : Parts → List Session → ℕ → Session
session_at L ss x = unwrap_or (first (leaves L.group (x / 32 % 256) (x % 32)) ss) nobody

-- w, where it is one of the first W wavelengths
abbrev pub found_below : ℕ → ℕ → Option ℕ
found_below W w = cond (nat_lt w W) (Some w) None

-- the mask of group a, once w is lit at group x
abbrev pub marked : ℕ → ℕ → ℕ → ℕ → ℕ
marked x w a mask = cond (x == a && nat_lt w 32) (bit_or mask (2 ^ w)) mask
