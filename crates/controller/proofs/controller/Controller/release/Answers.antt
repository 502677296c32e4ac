-- What is booked is taken down.
use Rattle.std.proofs.Common.{ℕ, [], length, Result, sym, refl, subst}
use Rattle.reckoning.specs.declared.call.Call.TheVariants.{Release}
use Rattle.reckoning.specs.Questions.{Room}
use Rattle.sheet.specs.Pages.{page_of}
use Rattle.book.specs.declared.refusal.CallRefusal.{CallRefusal}
use Rattle.book.specs.Books.{parts_in, standing_in}
use Rattle.book.specs.Calls.{darkens}
use Rattle.book.proofs.Asking.{handed_err}
use Rattle.controller.specs.declared.controller.Controller.{Controller}
use Rattle.controller.specs.Service.{Serves, release_answer, moment}
use Rattle.controller.proofs.Replies.{release_rows, release_walk}
use Rattle.controller.proofs.Serving.{carried_out}
use Rattle.controller.proofs.controller.Controller.release.Goals as goal

pub returns-in_err-released : goal.returns-in_err-released
returns-in_err-released g c =
    let k = c.args.self.now in
    let k' : Controller g.row.L.Denot g.row.P.Denot = record { layout = k.layout; plant = k.plant; book = c.release.new.self } in
    let o = (page_of c.args.orders.now) in
    let o' = (page_of c.release.new.orders) in
    let e = c.in_err-released.field-0.0 in
    let call = Release c.args.number in
    record {
      place = c.release.ensures.same;
      same = record { layout = refl; setting = (c.in_err-released.ensures.booked []).setting; kept = refl };
      serves = λ rows walk.
          let room : Room = record { orders = length o.places; rows = length rows.places } in
          subst (λ (r : Result ℕ CallRefusal). Serves g.L.Layout k call (release_answer r) (moment g.P.Plant k o rows walk) (moment g.P.Plant k' o' rows walk)) (handed_err c.from_residual.result e c.from_residual.ensures.1)
          (carried_out g.L.Layout g.P.Plant k k' (g.met.L.Layout.grouped k.layout) (g.met.L.Layout.separate k.layout) call _ _ o o' rows walk walk (c.in_err-released.ensures.booked walk) refl
          (release_rows (parts_in k.book) room (standing_in k.book) walk c.args.number) (sym (release_walk (parts_in k.book) room (standing_in k.book) walk c.args.number)));
    }

pub returns : goal.returns
returns g c =
    let k = c.args.self.now in
    let k' : Controller g.row.L.Denot g.row.P.Denot = record { layout = k.layout; plant = c.darken.new.plant; book = c.release.new.self } in
    let o = (page_of c.args.orders.now) in
    let o' = (page_of c.release.new.orders) in
    let call = Release c.args.number in
    record {
      place = c.release.ensures.same;
      same = record { layout = refl; setting = (c.in_ok-released.ensures.booked []).setting; kept = c.darken.ensures.kept };
      serves = λ rows walk.
          let room : Room = record { orders = length o.places; rows = length rows.places } in
          carried_out g.L.Layout g.P.Plant k k' (g.met.L.Layout.grouped k.layout) (g.met.L.Layout.separate k.layout) call _ (darkens c.in_ok-released.released) o o' rows walk walk (c.in_ok-released.ensures.booked walk) c.darken.ensures.after
          (release_rows (parts_in k.book) room (standing_in k.book) walk c.args.number) (sym (release_walk (parts_in k.book) room (standing_in k.book) walk c.args.number));
    }
