use Rattle.std.proofs.Common.{◌≡◌, reverse}
use Rattle.std.specs.Iterator.Adapters.{rev_source}
use Rattle.std.specs.Slice.Iter.{iter_rest}
use Rattle.plant.specs.Orders.{onward}
use Rattle.plant.specs.Slips.{slip_of}
use Rattle.plant.proofs.Carrying.{Alike}
use Rattle.plant.proofs.change_over.go_back.Given as goal

abbrev pub invariant-loop-next : goal.invariant-loop-next
invariant-loop-next g l =
    (l.held ≡ slip_of l.dark)
    × Alike (g.P.Plant.state l.plant) (onward l.dark (reverse (iter_rest (rev_source l.next-iterator)))) (g.P.Plant.state l.initial.plant) (onward l.initial.dark (reverse l.chain))
    × (g.P.Plant.kept l.plant ≡ g.P.Plant.kept l.initial.plant)
