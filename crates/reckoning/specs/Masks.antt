-- A set of wavelengths as the bits of a number, the lowest first.
use Rattle.std.specs.Prelude.{ℕ, zero, suc, ◌+◌, ◌*◌, Bool, cond, List}
use Rattle.reckoning.specs.declared.session.Session.{Session}
use Rattle.reckoning.specs.Parts.{Parts}
use Rattle.reckoning.specs.Standing.{lit_out, lit_into}

-- bit i is set where a + i is lit, for each i below n
abbrev pub mask_from : (ℕ → Bool) → ℕ → ℕ → ℕ
mask_from lit a zero = 0
mask_from lit a (suc n) = cond (lit a) 1 0 + 2 * mask_from lit (a + 1) n

abbrev pub mask : (ℕ → Bool) → ℕ
mask lit = mask_from lit 0 32

-- the wavelengths lit out of a group, and those lit into it
unfoldable pub out_mask : Parts → List Session → ℕ → ℕ
out_mask L ss a = mask (lit_out L.group ss a)

unfoldable pub into_mask : Parts → List Session → ℕ → ℕ
into_mask L ss b = mask (lit_into L.group ss b)
