-- The questions on number and parts come first.
use Rattle.std.proofs.Common.{drop, ◌∙◌}
use Rattle.reckoning.specs.Questions.{numbered, ends}
use Rattle.book.specs.Books.{parts_in, standing_in}
use Rattle.book.proofs.Asking.{handed_on, at_first}
use Rattle.book.proofs.book.Book.ask_ends.Goals as goal

pub returns-in_err-ask_numbered : goal.returns-in_err-ask_numbered
returns-in_err-ask_numbered c =
    let e = c.in_err-ask_numbered.field-0.0 in
    handed_on c.from_residual.result e c.from_residual.ensures.1 ∙ at_first e (numbered (parts_in c.args.self.now) c.args.demand.number) (drop 3 (ends (parts_in c.args.self.now) (standing_in c.args.self.now) c.args.demand.number c.args.demand.source c.args.demand.destination)) c.in_err-ask_numbered.ensures
