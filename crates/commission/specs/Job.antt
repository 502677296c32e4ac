-- What the job of commissioning a plant answers, and the plant after it.
use Rattle.std.specs.Prelude.{◌≡◌, ℕ, ◌+◌, ◌*◌, ◌<◌, List, [], ◌∷◌, map, drop, Ok, Err, Result, slice_index}
use Rattle.plant.specs.declared.lightpath.Lightpath.{Lightpath}
use Rattle.plant.specs.declared.refusal.PlantRefusal.{PlantRefusal}
use Rattle.plant.specs.Cells.{coded}
use Rattle.plant.specs.Refusals.{plant_number}
use Rattle.plant.specs.Orders.{Order, light, darken, answer_to, after, after_all, change_over, until_refused}
use Rattle.plant.specs.Switch.{Switch}
use Rattle.commission.specs.declared.job.Job.{Job}

abbrev pub lighting : Lightpath → Order
lighting p = light p.wavelength p.source p.destination

-- the answers, each from the plant as those before it left it
abbrev pub answers_to : Switch → List Lightpath → List (Result (Unit {0}) PlantRefusal)
answers_to t [] = []
answers_to t (p ∷ ps) = answer_to t (lighting p) ∷ answers_to (after t (lighting p)) ps

-- an answer as it is shown: a refusal by its number
abbrev pub numbered : Result (Unit {0}) PlantRefusal → Result (Unit {0}) ℕ
numbered (Ok u) = Ok u
numbered (Err e) = Err (plant_number e)

-- the job's steps: the plan is lit, as far as the plant accepts it; a chain changes over; another one; and one lightpath is darkened
abbrev pub plan_lit : Switch → Job → Switch
plan_lit t job = after_all t (map lighting job.plan.now)

abbrev pub chain_moved : Switch → Job → Switch
chain_moved t job = until_refused (plan_lit t job) (change_over job.chain.now)

abbrev pub other_moved : Switch → Job → Switch
other_moved t job = until_refused (chain_moved t job) (change_over job.other.now)

abbrev pub darkening : Lightpath → Order
darkening p = darken p.wavelength p.source p.destination

abbrev pub after_job : Switch → Job → Switch
after_job t job = after (other_moved t job) (darkening job.last)

-- bytes that hold a switch: at wavelength × groups + destination the source group heard there plus one, or 0; and behind them what was there before
pub record Holds (t : Switch) (before bytes : List ℕ) : Type 0 where
  pub each : (w b : ℕ) → w < t.waves → b < t.groups → slice_index bytes (w * t.groups + b) ≡ coded (t.hears w b)
  pub behind : drop (t.waves * t.groups) bytes ≡ drop (t.waves * t.groups) before

-- as many wavelengths and groups, and everywhere the same is heard
pub record Same (s t : Switch) : Type 0 where
  pub waves : s.waves ≡ t.waves
  pub groups : s.groups ≡ t.groups
  pub hears : (w b : ℕ) → s.hears w b ≡ t.hears w b
