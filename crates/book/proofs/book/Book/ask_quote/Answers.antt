-- The ends, the walk list, and what is free.
use Rattle.std.proofs.Common.{[], ◌∷◌, ◌++◌, ◌∙◌, arith}
use Rattle.reckoning.specs.Questions.{ends, walk_room, ports, loads}
use Rattle.book.specs.Books.{parts_in, standing_in}
use Rattle.book.proofs.Asking.{handed_on, at_first, led_on}
use Rattle.book.proofs.book.Book.ask_quote.Goals as goal

pub returns-in_err-ask_ends : goal.returns-in_err-ask_ends
returns-in_err-ask_ends c =
    let b = c.args.self.now in
    let e = c.in_err-ask_ends.field-0.0 in
    let free = ports (parts_in b) (standing_in b) c.args.demand.source c.args.demand.destination ++ loads (parts_in b) (standing_in b) c.args.demand.source c.args.demand.destination in
    handed_on c.from_residual.result e c.from_residual.ensures.1
    ∙ at_first e (ends (parts_in b) (standing_in b) c.args.demand.number c.args.demand.source c.args.demand.destination) (walk_room (parts_in b) c.args.walk.now ∷ free) c.in_err-ask_ends.ensures

pub returns-in_err-ask_walk_room : goal.returns-in_err-ask_walk_room
returns-in_err-ask_walk_room c =
    let b = c.args.self.now in
    let e = c.in_err-ask_walk_room.field-0.0 in
    let free = ports (parts_in b) (standing_in b) c.args.demand.source c.args.demand.destination ++ loads (parts_in b) (standing_in b) c.args.demand.source c.args.demand.destination in
    handed_on c.from_residual-in_err-ask_walk_room.result e c.from_residual-in_err-ask_walk_room.ensures.1
    ∙ (at_first e (walk_room (parts_in b) c.args.walk.now ∷ []) free c.in_err-ask_walk_room.ensures
    ∙ led_on (ends (parts_in b) (standing_in b) c.args.demand.number c.args.demand.source c.args.demand.destination) (walk_room (parts_in b) c.args.walk.now ∷ free) (omega arith) c.in_ok-ask_ends.ensures)

pub returns : goal.returns
returns c =
    let b = c.args.self.now in
    let free = ports (parts_in b) (standing_in b) c.args.demand.source c.args.demand.destination ++ loads (parts_in b) (standing_in b) c.args.demand.source c.args.demand.destination in
    c.ask_free.ensures
    ∙ (led_on (walk_room (parts_in b) c.args.walk.now ∷ []) free (omega arith) c.in_ok-ask_walk_room.ensures
    ∙ led_on (ends (parts_in b) (standing_in b) c.args.demand.number c.args.demand.source c.args.demand.destination) (walk_room (parts_in b) c.args.walk.now ∷ free) (omega arith) c.in_ok-ask_ends.ensures)
