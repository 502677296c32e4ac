-- The slip that an accepted taking down hands out, and the slip of a lightpath of a chain.
use Rattle.std.specs.Prelude.{Ok, Err, Result}
use Rattle.plant.specs.declared.refusal.PlantRefusal.{PlantRefusal}
use Rattle.plant.specs.declared.change_over.Retuning.{Retuning}
use Rattle.plant.specs.declared.slip.Slip.{Slip}
use Rattle.plant.specs.declared.lightpath.Lightpath.{Lightpath}

abbrev pub slip_for : Result (Unit {0}) PlantRefusal → Lightpath → Result Slip PlantRefusal
slip_for (Ok u) p = Ok (record { path = p })
slip_for (Err e) p = Err e

-- from before it changes
abbrev pub slip_of : Retuning → Slip
slip_of e = record { path = e.path }
