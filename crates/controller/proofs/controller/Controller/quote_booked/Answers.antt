-- The book answers, and nothing else changes.
use Rattle.std.proofs.Common.{List, length, Option, sym, refl, ap}
use Rattle.reckoning.specs.declared.session.Session.{Session}
use Rattle.reckoning.specs.declared.call.Call.TheVariants.{Quote}
use Rattle.sheet.specs.Sheets.{rewritten}
use Rattle.reckoning.proofs.Runs.{still_quote}
use Rattle.reckoning.specs.Questions.{Room}
use Rattle.book.specs.Books.{parts_in, standing_in}
use Rattle.controller.proofs.Replies.{quote_rows}
use Rattle.controller.proofs.Serving.{looked}
use Rattle.controller.proofs.controller.Controller.quote_booked.Goals as goal

pub returns : goal.returns
returns g c orders rows =
    let k = c.args.self.now in
    let room : Room = record { orders = length orders.places; rows = length rows.places } in
    let L = parts_in k.book in
    let ss = standing_in k.book in
    looked g.L.Layout g.P.Plant k (g.met.L.Layout.grouped k.layout) (g.met.L.Layout.separate k.layout) (Quote c.args.demand.number c.args.demand.source c.args.demand.destination) _ orders rows rows c.args.walk.now c.quote.new.walk
    (still_quote L room ss c.args.walk.now c.args.demand.number c.args.demand.source c.args.demand.destination) c.quote.ensures.answer
    (sym (ap (λ (x : Option (List Session)). rewritten x rows) (quote_rows L room ss c.args.walk.now c.args.demand.number c.args.demand.source c.args.demand.destination))) c.quote.ensures.walk refl
