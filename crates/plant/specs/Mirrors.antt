-- What mirrors mean: by wavelength and source group, each points at a destination group, or at none.
use Rattle.std.specs.Prelude.{◌≡◌, ℕ, ◌<◌, ◌≤◌, cond, ◌&&◌, List, [], length, Some, None, Option, nat_lt, slice_index_or}
use Rattle.plant.specs.Switch.{Switch, first, is_from}

abbrev pub mirror : List (List (Option ℕ)) → ℕ → ℕ → Option ℕ
mirror mirrors w a = slice_index_or (slice_index_or mirrors w []) a None

-- the mirrors of a hub of these counts
pub record Sound (waves groups : ℕ) (mirrors : List (List (Option ℕ))) : Type 0 where
  pub few_waves : waves ≤ 32
  pub few_groups : groups ≤ 32
  pub both : (waves ≡ 0 → groups ≡ 0) × (groups ≡ 0 → waves ≡ 0)
  pub rows : (w : ℕ) → w < 32 → length (slice_index_or mirrors w []) ≡ 32
  -- each mirror points at a group, or at none
  pub ranged : (w a b : ℕ) → w < waves → a < groups → mirror mirrors w a ≡ Some b → b < groups
  -- no two sources of one wavelength point at one destination
  pub apart : (w a c b : ℕ) → w < waves → a < groups → c < groups → mirror mirrors w a ≡ Some b → mirror mirrors w c ≡ Some b → a ≡ c

abbrev pub mirror_switch : ℕ → ℕ → List (List (Option ℕ)) → Switch
mirror_switch waves groups mirrors =
    record { waves = waves; groups = groups; hears = λ w b. cond (nat_lt w waves && nat_lt b groups) (first (λ a. is_from (mirror mirrors w a) b) groups) None }
