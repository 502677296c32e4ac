-- The ends, the order sheet, the walk list, and what is free.
use Rattle.std.proofs.Common.{◌-◌, ◌*◌, [], ◌∷◌, ◌++◌, ◌∙◌, arith}
use Rattle.reckoning.specs.Questions.{ends, order_room, walk_room, ports, loads}
use Rattle.book.specs.Books.{parts_in, standing_in}
use Rattle.book.proofs.Asking.{handed_on, at_first, led_on}
use Rattle.book.proofs.book.Book.ask_admit.Goals as goal

pub returns-in_err-ask_ends : goal.returns-in_err-ask_ends
returns-in_err-ask_ends c =
    let b = c.args.self.now in
    let e = c.in_err-ask_ends.field-0.0 in
    let room = order_room (2 * b.setting.span - 1) (record { orders = c.args.places; rows = 0 }) in
    let rest = walk_room (parts_in b) c.args.walk.now ∷ (ports (parts_in b) (standing_in b) c.args.demand.source c.args.demand.destination ++ loads (parts_in b) (standing_in b) c.args.demand.source c.args.demand.destination) in
    handed_on c.from_residual.result e c.from_residual.ensures.1
    ∙ at_first e (ends (parts_in b) (standing_in b) c.args.demand.number c.args.demand.source c.args.demand.destination) (room ∷ rest) c.in_err-ask_ends.ensures

pub returns-in_err-ask_order_room : goal.returns-in_err-ask_order_room
returns-in_err-ask_order_room c =
    let b = c.args.self.now in
    let e = c.in_err-ask_order_room.field-0.0 in
    let room = order_room (2 * b.setting.span - 1) (record { orders = c.args.places; rows = 0 }) in
    let rest = walk_room (parts_in b) c.args.walk.now ∷ (ports (parts_in b) (standing_in b) c.args.demand.source c.args.demand.destination ++ loads (parts_in b) (standing_in b) c.args.demand.source c.args.demand.destination) in
    handed_on c.from_residual-in_err-ask_order_room.result e c.from_residual-in_err-ask_order_room.ensures.1
    ∙ (at_first e (room ∷ []) rest c.in_err-ask_order_room.ensures
    ∙ led_on (ends (parts_in b) (standing_in b) c.args.demand.number c.args.demand.source c.args.demand.destination) (room ∷ rest) (omega arith) c.in_ok-ask_ends.ensures)

pub returns-in_err-ask_walk_room : goal.returns-in_err-ask_walk_room
returns-in_err-ask_walk_room c =
    let b = c.args.self.now in
    let e = c.in_err-ask_walk_room.field-0.0 in
    let room = order_room (2 * b.setting.span - 1) (record { orders = c.args.places; rows = 0 }) in
    let walk = walk_room (parts_in b) c.args.walk.now in
    let free = ports (parts_in b) (standing_in b) c.args.demand.source c.args.demand.destination ++ loads (parts_in b) (standing_in b) c.args.demand.source c.args.demand.destination in
    handed_on c.from_residual-in_err-ask_walk_room.result e c.from_residual-in_err-ask_walk_room.ensures.1
    ∙ (at_first e (walk ∷ []) free c.in_err-ask_walk_room.ensures
    ∙ (led_on (room ∷ []) (walk ∷ free) (omega arith) c.in_ok-ask_order_room.ensures
    ∙ led_on (ends (parts_in b) (standing_in b) c.args.demand.number c.args.demand.source c.args.demand.destination) (room ∷ walk ∷ free) (omega arith) c.in_ok-ask_ends.ensures))

pub returns : goal.returns
returns c =
    let b = c.args.self.now in
    let room = order_room (2 * b.setting.span - 1) (record { orders = c.args.places; rows = 0 }) in
    let walk = walk_room (parts_in b) c.args.walk.now in
    let free = ports (parts_in b) (standing_in b) c.args.demand.source c.args.demand.destination ++ loads (parts_in b) (standing_in b) c.args.demand.source c.args.demand.destination in
    c.ask_free.ensures
    ∙ (led_on (walk ∷ []) free (omega arith) c.in_ok-ask_walk_room.ensures
    ∙ (led_on (room ∷ []) (walk ∷ free) (omega arith) c.in_ok-ask_order_room.ensures
    ∙ led_on (ends (parts_in b) (standing_in b) c.args.demand.number c.args.demand.source c.args.demand.destination) (room ∷ walk ∷ free) (omega arith) c.in_ok-ask_ends.ensures))
