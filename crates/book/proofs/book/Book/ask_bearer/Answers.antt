-- The bearer is found, or none is.
use Rattle.std.proofs.Common.{arith}
use Rattle.reckoning.specs.Questions.{numbered}
use Rattle.reckoning.specs.Standing.{bears}
use Rattle.book.specs.Books.{parts_in, standing_in}
use Rattle.book.proofs.Asking.{bearer_asked}
use Rattle.book.proofs.book.Book.ask_bearer.Goals as goal

pub returns-clause-answer : goal.returns-clause-answer
returns-clause-answer c =
    let b = c.args.self.now in
    bearer_asked (numbered (parts_in b) c.args.number) (bears c.args.number) (standing_in b) _ _ (omega arith) c.in_ok-ask_numbered.ensures c.look_up.ensures c.ok_or.ensures.value
