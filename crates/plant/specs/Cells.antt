-- A table of bytes in rows of k, a row for each wavelength; a byte is a group plus one, or 0 for none.
use Rattle.std.specs.Prelude.{ℕ, ◌+◌, ◌-◌, ◌*◌, cond, List, Some, None, Option, ◌==◌, slice_index}

abbrev pub cell : ℕ → List ℕ → ℕ → ℕ → ℕ
cell k bytes w i = slice_index bytes (w * k + i)

abbrev pub named : ℕ → Option ℕ
named byte = cond (byte == 0) None (Some (byte - 1))

-- the byte that names a group or none
abbrev pub coded : Option ℕ → ℕ
coded None = 0
coded (Some g) = g + 1
