-- The chain changes over, and then the new lightpath is lit.
use Rattle.std.proofs.Common.{take}
use Rattle.plant.specs.Orders.{change_over, light}
use Rattle.controller.proofs.Driving.{change_refused, change_done}
use Rattle.controller.proofs.drive.change.Goals as goal

pub returns-in_err-change_over-clause-after : goal.returns-in_err-change_over-clause-after
returns-in_err-change_over-clause-after g c =
    let x = c.args.change.now in
    let t = g.P.Plant.state c.args.plant.now in
    let u = g.P.Plant.state c.change_over.new.plant in
    change_refused t u (change_over (take x.moves x.chain)) (light x.path.wavelength x.path.source x.path.destination) c.change_over.ensures.after c.in_err-change_over.field-0.0 c.in_err-change_over.ensures.answer

pub returns-clause-after : goal.returns-clause-after
returns-clause-after g c =
    let x = c.args.change.now in
    let t = g.P.Plant.state c.args.plant.now in
    let u = g.P.Plant.state c.change_over.new.plant in
    let v = g.P.Plant.state c.light.new.self in
    change_done t u (change_over (take x.moves x.chain)) (light x.path.wavelength x.path.source x.path.destination) c.change_over.ensures.after v c.in_ok-change_over.ensures.answer c.light.ensures.after
