-- The book answers, and nothing changes.
use Rattle.std.proofs.Common.{List, length, Option, sym, refl, ap}
use Rattle.reckoning.specs.declared.session.Session.{Session}
use Rattle.reckoning.specs.declared.call.Call.TheVariants.{Where}
use Rattle.sheet.specs.Sheets.{rewritten}
use Rattle.reckoning.proofs.Runs.{still_locate}
use Rattle.reckoning.specs.Questions.{Room}
use Rattle.book.specs.Books.{parts_in, standing_in}
use Rattle.controller.proofs.Replies.{where_rows, where_walk}
use Rattle.controller.proofs.Serving.{looked}
use Rattle.controller.proofs.controller.Controller.locate_booked.Goals as goal

pub returns : goal.returns
returns g c =
    let k = c.args.self.now in
    let L = parts_in k.book in
    let ss = standing_in k.book in
    record {
      session = c.locate.ensures.session;
      serves = λ orders rows walk.
          let room : Room = record { orders = length orders.places; rows = length rows.places } in
          looked g.L.Layout g.P.Plant k (g.met.L.Layout.grouped k.layout) (g.met.L.Layout.separate k.layout) (Where c.args.number) _ orders rows rows walk walk
          (still_locate L room ss walk c.args.number) (c.locate.ensures.answer walk)
          (sym (ap (λ (x : Option (List Session)). rewritten x rows) (where_rows L room ss walk c.args.number))) (sym (where_walk L room ss walk c.args.number)) refl;
    }
