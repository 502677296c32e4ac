-- After a session on p comes the one on q out of its source group.
use Rattle.book.specs.Books.{parts_in, standing_in}
use Rattle.book.proofs.Walking.{next_back}
use Rattle.book.proofs.book.Book.follower.Goals as goal

pub returns-then-s-exchange-2 : goal.returns-then-s-exchange-2
returns-then-s-exchange-2 c =
    let b = c.args.self.now in
    next_back (parts_in b).group (standing_in b) c.args.exchange.p c.args.exchange.q _ c.args.s _ c.if-s-exchange.false c.if-s-exchange-2.true c.group_of-then-s-exchange-2.ensures c.look_up-then-s-exchange-2.ensures
