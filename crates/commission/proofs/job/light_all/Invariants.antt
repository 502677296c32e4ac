use Rattle.std.proofs.Common.{◌≡◌, ◌++◌, map, drop, vec_items}
use Rattle.commission.specs.Job.{answers_to, lighting}
use Rattle.plant.specs.Orders.{after_all}
use Rattle.commission.proofs.job.light_all.Given as goal

abbrev pub invariant-loop-path : goal.invariant-loop-path
invariant-loop-path g l =
    (vec_items l.answers ++ answers_to (g.P.Plant.state l.plant) (drop l.path-index l.plan) ≡ answers_to (g.P.Plant.state l.initial.plant) l.plan)
    × (after_all (g.P.Plant.state l.plant) (map lighting (drop l.path-index l.plan)) ≡ after_all (g.P.Plant.state l.initial.plant) (map lighting l.plan))
    × (g.P.Plant.kept l.plant ≡ g.P.Plant.kept l.initial.plant)
