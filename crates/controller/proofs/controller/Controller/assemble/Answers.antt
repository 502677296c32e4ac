-- The book has the parts as told, and no session; a dark plant carries none.
use Rattle.std.proofs.Common.{sym, refl, subst}
use Rattle.reckoning.specs.Parts.{Parts}
use Rattle.reckoning.specs.Runs.{Start}
use Rattle.reckoning.proofs.Serving.{start_made}
use Rattle.controller.specs.declared.controller.Controller.{Controller}
use Rattle.controller.specs.Service.{moment}
use Rattle.controller.proofs.controller.Controller.assemble.Goals as goal

pub returns : goal.returns
returns g c =
    let k : Controller g.row.L.Denot g.row.P.Denot = record { layout = c.args.layout; plant = c.args.plant; book = c.new-book.result } in
    let n = g.L.Layout.network c.args.layout in
    record {
      held = refl;
      driven = refl;
      told = c.new-book.ensures.parts;
      none = c.new-book.ensures.none;
      start = λ dark orders rows walk.
          subst (λ (L : Parts). Start n L (moment g.P.Plant k orders rows walk)) (sym c.new-book.ensures.parts)
          (start_made n (g.P.Plant.state c.args.plant) (moment g.P.Plant k orders rows walk) c.new-book.ensures.none refl dark (g.met.P.Plant.proper c.args.plant));
    }
