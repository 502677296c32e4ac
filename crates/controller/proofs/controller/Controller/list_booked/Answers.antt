-- The book writes the rows, and nothing else changes.
use Rattle.std.proofs.Common.{length, sym}
use Rattle.reckoning.specs.declared.call.Call.TheVariants.{List as Rows}
use Rattle.reckoning.proofs.Runs.{still_list}
use Rattle.reckoning.specs.Questions.{Room}
use Rattle.sheet.specs.Pages.{page_of}
use Rattle.book.specs.Books.{parts_in, standing_in}
use Rattle.controller.proofs.Replies.{list_walk}
use Rattle.controller.proofs.Serving.{looked}
use Rattle.controller.proofs.controller.Controller.list_booked.Goals as goal

pub returns : goal.returns
returns g c =
    let k = c.args.self.now in
    let s = (page_of c.args.rows.now) in
    let L = parts_in k.book in
    let ss = standing_in k.book in
    record {
      place = c.list.ensures.same;
      serves = λ orders walk.
          let room : Room = record { orders = length orders.places; rows = length s.places } in
          looked g.L.Layout g.P.Plant k (g.met.L.Layout.grouped k.layout) (g.met.L.Layout.separate k.layout) Rows _ orders s (page_of c.list.new.rows) walk walk
          (still_list L room ss walk) (c.list.ensures.answer walk) (c.list.ensures.rows walk) (sym (list_walk L room ss walk)) c.list.ensures.room;
    }
