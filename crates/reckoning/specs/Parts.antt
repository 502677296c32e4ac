-- What layout and plant tell at the making of a controller.
use Rattle.std.specs.Prelude.{ℕ, zero, suc, Bool, true, not, ◌&&◌, is_some, Option}
use Rattle.network.specs.Network.{Network}
use Rattle.plant.specs.Switch.{Switch}

pub record Parts : Type 0 where
  pub sites : ℕ
  pub groups : ℕ
  -- by site
  pub ports : ℕ → ℕ
  pub group : ℕ → ℕ
  pub wavelengths : ℕ
  -- as many groups as the plant counts
  pub plant_groups : ℕ
  pub dark : Bool

-- none of the first n groups hears any on w
abbrev pub quiet : (ℕ → ℕ → Option ℕ) → ℕ → ℕ → Bool
quiet hears w zero = true
quiet hears w (suc n) = not (is_some (hears w n)) && quiet hears w n

-- no group below G hears any on the first W wavelengths
abbrev pub dark_below : (ℕ → ℕ → Option ℕ) → ℕ → ℕ → Bool
dark_below hears G zero = true
dark_below hears G (suc w) = quiet hears w G && dark_below hears G w

abbrev pub is_dark : Switch → Bool
is_dark t = dark_below t.hears t.groups t.waves

abbrev pub parts_told : Network → Switch → Parts
parts_told n t =
    record {
      sites = n.sites;
      groups = n.groups;
      ports = n.ports;
      group = n.group;
      wavelengths = t.waves;
      plant_groups = t.groups;
      dark = is_dark t;
    }
