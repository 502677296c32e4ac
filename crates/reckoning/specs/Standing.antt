-- What is lit by the standing sessions, each an edge from its source group to its destination group, coloured by its wavelength.
use Rattle.std.specs.Prelude.{ℕ, Bool, not, ◌&&◌, List, count_by, filter, ◌==◌, nat_eq}
use Rattle.std.specs.List.{range_with_len}
use Rattle.reckoning.specs.declared.session.Session.{Session}
use Rattle.reckoning.specs.Lists.{any}

abbrev pub bears : ℕ → Session → Bool
bears n s = s.number == n

-- does a session bear the number?
abbrev pub borne : List Session → ℕ → Bool
borne ss n = any (bears n) ss

-- the sessions that do not bear the number
abbrev pub without : List Session → ℕ → List Session
without ss n = filter (λ s. not (bears n s)) ss

-- how many sessions leave a site, and how many reach it: its transmitters and receivers in use
abbrev pub sent : List Session → ℕ → ℕ
sent ss site = count_by (λ s. nat_eq s.source site) ss

abbrev pub received : List Session → ℕ → ℕ
received ss site = count_by (λ s. nat_eq s.destination site) ss

-- below, g gives the group of a site

-- does s leave group a on w? does it enter group b on w?
abbrev pub leaves : (ℕ → ℕ) → ℕ → ℕ → Session → Bool
leaves g w a s = s.wavelength == w && g s.source == a

abbrev pub enters : (ℕ → ℕ) → ℕ → ℕ → Session → Bool
enters g w b s = s.wavelength == w && g s.destination == b

abbrev pub lit_out : (ℕ → ℕ) → List Session → ℕ → ℕ → Bool
lit_out g ss a w = any (leaves g w a) ss

abbrev pub lit_into : (ℕ → ℕ) → List Session → ℕ → ℕ → Bool
lit_into g ss b w = any (enters g w b) ss

-- of W wavelengths, how many are lit out of a, and how many into b
abbrev pub up_load : (ℕ → ℕ) → List Session → ℕ → ℕ → ℕ
up_load g ss W a = count_by (lit_out g ss a) (range_with_len 0 W)

abbrev pub down_load : (ℕ → ℕ) → List Session → ℕ → ℕ → ℕ
down_load g ss W b = count_by (lit_into g ss b) (range_with_len 0 W)
