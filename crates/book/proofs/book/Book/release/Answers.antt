-- The session is found, its lightpath is told, and it goes.
use Rattle.std.proofs.Common.{◌≤◌, length, Result, refl, ap, subst, arith}
use Rattle.plant.specs.declared.lightpath.Lightpath.{Lightpath}
use Rattle.reckoning.specs.declared.order.Order.{Order}
use Rattle.reckoning.specs.Calls.{release}
use Rattle.reckoning.specs.Questions.{Room}
use Rattle.sheet.specs.Pages.{page_of}
use Rattle.sheet.specs.Sheets.{Page}
use Rattle.book.specs.declared.refusal.CallRefusal.{CallRefusal}
use Rattle.book.specs.declared.refusal.CallRefusal.TheVariants.{OrderRoom}
use Rattle.book.specs.Books.{parts_in, standing_in}
use Rattle.book.specs.Calls.{Booked, darkens, release_answer, told}
use Rattle.book.proofs.Asking.{handed_err, passed_ask}
use Rattle.book.proofs.Releasing.{refused_booked, release_refused, not_borne, released_booked}
use Rattle.book.proofs.book.Book.release.Goals as goal

pub returns-in_err-s : goal.returns-in_err-s
returns-in_err-s c =
    let b = c.args.self.now in
    let x = c.in_err-s.field-0.0 in
    let o = (page_of c.args.orders.now) in
    let room : Room = record { orders = length (page_of c.args.orders.now).places; rows = 0 } in
    record {
      same = refl;
      booked = λ walk.
          let y = release (parts_in b) room (standing_in b) walk c.args.number in
          subst (λ (r : Result Lightpath CallRefusal). Booked y (release_answer r) (told darkens r) b b o o) (handed_err c.from_residual.result x c.from_residual.ensures.1)
          (refused_booked y b walk o x (release_refused (parts_in b) room (standing_in b) walk c.args.number x (not_borne (parts_in b) room (standing_in b) walk c.args.number x c.in_err-s.ensures.answer)));
    }

pub returns : goal.returns
returns c =
    let b = c.args.self.now in
    let s = c.in_ok-s.s in
    let room : Room = record { orders = length (page_of c.args.orders.now).places; rows = 0 } in
    let l : 1 ≤ room.orders = omega (arith, passed_ask 1 c.room.result OrderRoom c.in_ok-ask.ensures, c.room.ensures) in
    record {
      same = ap (λ (s : Page Order). s.memory) c.write_darkening.ensures;
      booked = λ walk.
          released_booked room walk c.args.number b c.leave.new.self (page_of c.args.orders.now) (page_of c.write_darkening.new.orders) s c.lightpath-path.result
          c.in_ok-s.ensures.answer l l c.in_ok-s.ensures.found c.leave.ensures.setting c.leave.ensures.stands c.lightpath-path.ensures c.write_darkening.ensures;
    }
