-- What a course says of the plan that the reckoning makes.
use Rattle.std.specs.Prelude.{◌≡◌, ℕ, ◌+◌, ◌-◌, ◌*◌, ◌<◌, ◌≤◌, List, length, take, drop}
use Rattle.reckoning.specs.declared.session.Session.{Session}
use Rattle.reckoning.specs.Parts.{Parts}
use Rattle.reckoning.specs.Standing.{up_load, down_load}
use Rattle.reckoning.specs.Plans.{Plan, plan}
use Rattle.reckoning.specs.Sheets.{codes, walked}
use Rattle.book.specs.declared.course.Course.{Course}

-- the parts fit, a wavelength is free out of a and one into b, and the walk list has room
pub record Open (L : Parts) (ss : List Session) (a b : ℕ) (walk : List ℕ) : Type 0 where
  pub out : a < L.plant_groups
  pub into : b < L.plant_groups
  pub up : up_load L.group ss L.wavelengths a < L.wavelengths
  pub down : down_load L.group ss L.wavelengths b < L.wavelengths
  pub room : 2 * L.plant_groups - 2 ≤ length walk

abbrev pub plan_for : Parts → List Session → ℕ → ℕ → Plan
plan_for L ss a b = plan L.group ss L.wavelengths L.plant_groups a b

pub record Chosen (L : Parts) (ss : List Session) (a b : ℕ) (old new : List ℕ) (r : Course) : Type 0 where
  pub gives : r.gives ≡ (plan_for L ss a b).gives
  pub p : r.exchange.p ≡ (plan_for L ss a b).p
  pub q : r.exchange.q ≡ (plan_for L ss a b).q
  pub moves : r.moves ≡ length (plan_for L ss a b).moving
  pub walk : new ≡ walked L.group (plan_for L ss a b) old
  pub moving : take r.moves (drop r.begin new) ≡ codes L.group (plan_for L ss a b).moving
  pub within : r.begin + r.moves ≤ length new
