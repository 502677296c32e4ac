-- The number of each refusal.
use Rattle.std.specs.Prelude.{ℕ}
use Rattle.plant.specs.declared.refusal.PlantRefusal.{PlantRefusal}
use Rattle.plant.specs.declared.refusal.PlantRefusal.TheVariants.{NoWavelength, NoGroup, SourceLit, DestinationLit, NotHeard}
use Rattle.plant.specs.declared.refusal.MakingRefusal.{MakingRefusal}
use Rattle.plant.specs.declared.refusal.MakingRefusal.TheVariants.{Counts, Registers}

abbrev pub plant_number : PlantRefusal → ℕ
plant_number NoWavelength = 31
plant_number NoGroup = 32
plant_number SourceLit = 33
plant_number DestinationLit = 34
plant_number NotHeard = 35

abbrev pub making_number : MakingRefusal → ℕ
making_number Counts = 37
making_number Registers = 38
