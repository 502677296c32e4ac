-- What is booked is put to the plant.
use Rattle.std.proofs.Common.{ℕ, length, Result, refl, subst}
use Rattle.reckoning.specs.declared.call.Call.TheVariants.{Admit}
use Rattle.sheet.specs.Pages.{page_of}
use Rattle.book.specs.declared.refusal.CallRefusal.{CallRefusal}
use Rattle.book.specs.Books.{parts_in, standing_in}
use Rattle.book.specs.Calls.{changes}
use Rattle.book.proofs.Asking.{handed_err}
use Rattle.controller.specs.declared.controller.Controller.{Controller}
use Rattle.controller.specs.Service.{Serves, admit_answer, moment}
use Rattle.controller.proofs.Replies.{admit_rows}
use Rattle.controller.proofs.Serving.{carried_out}
use Rattle.controller.proofs.controller.Controller.admit_booked.Goals as goal

pub returns-in_err-admitted : goal.returns-in_err-admitted
returns-in_err-admitted g c =
    let k = c.args.self.now in
    let k' : Controller g.row.L.Denot g.row.P.Denot = record { layout = k.layout; plant = k.plant; book = c.admit.new.self } in
    let o = (page_of c.args.orders.now) in
    let o' = (page_of c.admit.new.orders) in
    let e = c.in_err-admitted.field-0.0 in
    let call = Admit c.args.demand.number c.args.demand.source c.args.demand.destination c.args.limit in
    record {
      place = c.admit.ensures.same;
      same = record { layout = refl; setting = c.in_err-admitted.ensures.booked.setting; kept = refl };
      serves = λ rows.
          subst (λ (r : Result (ℕ × ℕ) CallRefusal). Serves g.L.Layout k call (admit_answer r) (moment g.P.Plant k o rows c.args.walk.now) (moment g.P.Plant k' o' rows c.admit.new.walk)) (handed_err c.from_residual.result e c.from_residual.ensures.1)
          (carried_out g.L.Layout g.P.Plant k k' (g.met.L.Layout.grouped k.layout) (g.met.L.Layout.separate k.layout) call _ _ o o' rows c.args.walk.now c.admit.new.walk c.in_err-admitted.ensures.booked refl
          (admit_rows (parts_in k.book) (record { orders = length o.places; rows = length rows.places }) (standing_in k.book) c.args.walk.now c.args.demand.number c.args.demand.source c.args.demand.destination c.args.limit) c.admit.ensures.walk);
    }

pub returns : goal.returns
returns g c =
    let k = c.args.self.now in
    let k' : Controller g.row.L.Denot g.row.P.Denot = record { layout = k.layout; plant = c.change.new.plant; book = c.admit.new.self } in
    let o = (page_of c.args.orders.now) in
    let o' = (page_of c.admit.new.orders) in
    let call = Admit c.args.demand.number c.args.demand.source c.args.demand.destination c.args.limit in
    record {
      place = c.admit.ensures.same;
      same = record { layout = refl; setting = c.in_ok-admitted.ensures.booked.setting; kept = c.change.ensures.kept };
      serves = λ rows.
          carried_out g.L.Layout g.P.Plant k k' (g.met.L.Layout.grouped k.layout) (g.met.L.Layout.separate k.layout) call _ (changes c.in_ok-admitted.admitted) o o' rows c.args.walk.now c.admit.new.walk c.in_ok-admitted.ensures.booked c.change.ensures.after
          (admit_rows (parts_in k.book) (record { orders = length o.places; rows = length rows.places }) (standing_in k.book) c.args.walk.now c.args.demand.number c.args.demand.source c.args.demand.destination c.args.limit) c.admit.ensures.walk;
    }
