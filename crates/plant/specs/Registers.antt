-- What register bytes mean: in rows of the group count, the byte of a destination group on a wavelength is the source group heard there plus one, or 0.
use Rattle.std.specs.Prelude.{ℕ, cond, ◌&&◌, List, ◌++◌, length, drop, replicate, None, nat_lt}
use Rattle.plant.specs.Cells.{cell, named}
use Rattle.plant.specs.Making.{fabric_verdict, granted}
use Rattle.plant.specs.Switch.{Switch}

abbrev pub register_switch : ℕ → ℕ → List ℕ → Switch
register_switch waves groups bytes =
    record { waves = waves; groups = groups; hears = λ w b. cond (nat_lt w waves && nat_lt b groups) (named (cell groups bytes w b)) None }

-- a count that was asked for, 0 of both where the counts or the number of bytes are refused
abbrev pub served : ℕ → ℕ → List ℕ → ℕ → ℕ
served waves groups bytes count = granted (fabric_verdict waves groups (length bytes)) count

abbrev pub fabric_switch : ℕ → ℕ → List ℕ → Switch
fabric_switch waves groups bytes = register_switch (served waves groups bytes waves) (served waves groups bytes groups) bytes

-- the first n bytes are 0, and the others as they were
abbrev pub zeroed : ℕ → List ℕ → List ℕ
zeroed n bytes = replicate n 0 ++ drop n bytes
