use Rattle.std.proofs.Common.{sym, subst}
use Rattle.plant.specs.Orders.{darken}
use Rattle.plant.specs.Switch.{Matching}
use Rattle.plant.proofs.Matchings.{order_matching, stays_matching}
use Rattle.plant.proofs.change_over.change_over.Goals as goal

pub returns-clause-matching : goal.returns-clause-matching
returns-clause-matching g c m =
    subst Matching (sym c.go_back.ensures.after)
    (stays_matching _ _ (subst Matching (sym c.in_ok-held.ensures.after) (order_matching (g.P.Plant.state c.args.plant.now) (darken _ _ _) m)))
