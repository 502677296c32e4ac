-- What was prepared is carried out.
use Rattle.std.proofs.Common.{ℕ, length, Err, Result, refl, sym, ap, ◌∙◌, subst, arith}
use Rattle.reckoning.specs.declared.order.Order.{Order}
use Rattle.reckoning.specs.Calls.{Reply, admit}
use Rattle.sheet.specs.Sheets.{Page}
use Rattle.sheet.specs.Pages.{page_of}
use Rattle.book.specs.declared.change.Change.{Change}
use Rattle.book.specs.declared.refusal.CallRefusal.{CallRefusal}
use Rattle.book.specs.Books.{parts_in, standing_in}
use Rattle.book.specs.Calls.{Booked, Prepared, admit_answer, changes, told}
use Rattle.book.proofs.Asking.{handed_err}
use Rattle.book.proofs.Admitting.{codes_few, found_is, walked_so, chain_few, orders_fit, place_free, stays_sound, booked_so}
use Rattle.book.proofs.Releasing.{refused_booked}
use Rattle.book.proofs.book.Book.admit.Goals as goal

pub sessions_at-moving-requires : goal.sessions_at-moving-requires
sessions_at-moving-requires c =
    codes_few c.args.self.now c.room.result c.args.walk.now c.args.demand c.args.limit c.prepare.new.walk c.in_ok-course.course c.in_ok-course.ensures

pub carry_out-requires : goal.carry_out-requires
carry_out-requires c =
    let b = c.args.self.now in
    let w = c.prepare.new.walk in
    let r = c.in_ok-course.course in
    let m = c.in_ok-course.ensures in
    let chain = c.deref.result.now in
    let is = c.deref.ensures.0 ∙ found_is b c.room.result c.args.walk.now c.args.demand c.args.limit w r m c.sessions_at-moving.result.items c.sessions_at-moving.ensures in
    record {
      few = chain_few b c.room.result c.args.walk.now c.args.demand c.args.limit w r m chain is;
      room = omega (arith, c.room.ensures, orders_fit b c.room.result c.args.walk.now c.args.demand c.args.limit w r m chain is);
      place = place_free b c.room.result c.args.walk.now c.args.demand c.args.limit w r m chain is;
      sound = stays_sound b c.room.result c.args.walk.now c.args.demand c.args.limit w r m chain is;
    }

pub returns-in_err-course : goal.returns-in_err-course
returns-in_err-course c =
    let b = c.args.self.now in
    let o = (page_of c.args.orders.now) in
    let d = c.args.demand in
    let x = c.in_err-course.field-0.0 in
    let w = c.prepare.new.walk in
    let m = subst (λ (n : ℕ). Prepared (parts_in b) (record { orders = n; rows = 0 }) (standing_in b) c.args.walk.now d.number d.source d.destination c.args.limit w (Err x)) c.room.ensures c.in_err-course.ensures in
    let y = admit (parts_in b) (record { orders = length o.places; rows = 0 }) (standing_in b) c.args.walk.now d.number d.source d.destination c.args.limit in
    record {
      same = refl;
      booked = subst (λ (r : Result Change CallRefusal). Booked y (admit_answer r) (told changes r) b b o o) (handed_err c.from_residual.result x c.from_residual.ensures.1) (refused_booked y b w o x m);
      walk = sym (ap (λ (z : Reply). z.walk) m);
    }

pub returns : goal.returns
returns c =
    let b = c.args.self.now in
    let w = c.prepare.new.walk in
    let r = c.in_ok-course.course in
    let m = c.in_ok-course.ensures in
    let is = c.deref.ensures.0 ∙ found_is b c.room.result c.args.walk.now c.args.demand c.args.limit w r m c.sessions_at-moving.result.items c.sessions_at-moving.ensures in
    record {
      same = ap (λ (s : Page Order). s.memory) c.carry_out.ensures.orders;
      booked = booked_so b c.room.result c.args.walk.now c.args.demand c.args.limit w r m c.deref.result.now is c.carry_out.new.self (page_of c.args.orders.now) (page_of c.carry_out.new.orders) c.carry_out.result c.room.ensures c.carry_out.ensures;
      walk = walked_so b c.room.result c.args.walk.now c.args.demand c.args.limit w r m _ c.room.ensures;
    }
