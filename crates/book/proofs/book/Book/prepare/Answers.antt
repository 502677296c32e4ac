-- The questions come first, then the choice, then the limit.
use Rattle.std.proofs.Common.{Result, sym, subst, arith}
use Rattle.reckoning.specs.Questions.{Room}
use Rattle.book.specs.declared.course.Course.{Course}
use Rattle.book.specs.declared.refusal.CallRefusal.{CallRefusal}
use Rattle.book.specs.Books.{parts_in, standing_in}
use Rattle.book.specs.Calls.{Prepared}
use Rattle.book.proofs.Asking.{handed_err}
use Rattle.book.proofs.Preparing.{fitting, opening_at, few_moves, many_moves, refused_before, at_groups}
use Rattle.book.proofs.book.Book.prepare.Goals as goal

pub returns-in_err-ask_admit : goal.returns-in_err-ask_admit
returns-in_err-ask_admit c =
    let b = c.args.self.now in
    let d = c.args.demand in
    let walk = c.args.walk.now in
    let room : Room = record { orders = c.args.places; rows = 0 } in
    let x = c.in_err-ask_admit.field-0.0 in
    subst (λ (r : Result Course CallRefusal). Prepared (parts_in b) room (standing_in b) walk d.number d.source d.destination c.args.limit walk r) (handed_err c.from_residual.result x c.from_residual.ensures.1)
    (refused_before (parts_in b) room (standing_in b) walk d.number d.source d.destination c.args.limit x c.in_err-ask_admit.ensures)

pub overflow_cast-demand : goal.overflow_cast-demand
overflow_cast-demand c =
    let b = c.args.self.now in
    let d = c.args.demand in
    omega (arith, (fitting (parts_in b) (record { orders = c.args.places; rows = 0 }) (standing_in b) c.args.walk.now d.number d.source d.destination c.args.limit (sym c.in_ok-ask_admit.ensures)).source, b.setting.small)

pub overflow_cast-demand-2 : goal.overflow_cast-demand-2
overflow_cast-demand-2 c =
    let b = c.args.self.now in
    let d = c.args.demand in
    omega (arith, (fitting (parts_in b) (record { orders = c.args.places; rows = 0 }) (standing_in b) c.args.walk.now d.number d.source d.destination c.args.limit (sym c.in_ok-ask_admit.ensures)).destination, b.setting.small)

pub choose-course-requires : goal.choose-course-requires
choose-course-requires c =
    let b = c.args.self.now in
    let d = c.args.demand in
    opening_at (parts_in b) (standing_in b) c.args.walk.now d.source d.destination
    (fitting (parts_in b) (record { orders = c.args.places; rows = 0 }) (standing_in b) c.args.walk.now d.number d.source d.destination c.args.limit (sym c.in_ok-ask_admit.ensures))
    b.setting.grouped c.group_of-a.result c.group_of-b.result c.group_of-a.ensures c.group_of-b.ensures

pub returns-then-course-limit : goal.returns-then-course-limit
returns-then-course-limit c =
    let b = c.args.self.now in
    let d = c.args.demand in
    let walk = c.args.walk.now in
    let h = at_groups (parts_in b) (standing_in b) d.source d.destination c.group_of-a.result c.group_of-b.result walk c.choose-course.new.walk c.choose-course.result c.group_of-a.ensures c.group_of-b.ensures c.choose-course.ensures in
    many_moves (parts_in b) (record { orders = c.args.places; rows = 0 }) (standing_in b) walk d.number d.source d.destination c.args.limit (sym c.in_ok-ask_admit.ensures) c.choose-course.new.walk h.walk (omega (arith, h.moves, c.if-course-limit.true))

pub returns : goal.returns
returns c =
    let b = c.args.self.now in
    let d = c.args.demand in
    let walk = c.args.walk.now in
    let h = at_groups (parts_in b) (standing_in b) d.source d.destination c.group_of-a.result c.group_of-b.result walk c.choose-course.new.walk c.choose-course.result c.group_of-a.ensures c.group_of-b.ensures c.choose-course.ensures in
    (few_moves (parts_in b) (record { orders = c.args.places; rows = 0 }) (standing_in b) walk d.number d.source d.destination c.args.limit (sym c.in_ok-ask_admit.ensures) (omega (arith, h.moves, c.if-course-limit.false)), h)
