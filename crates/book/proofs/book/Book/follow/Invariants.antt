use Rattle.std.proofs.Common.{◌*◌}
use Rattle.reckoning.specs.Plans.{next}
use Rattle.book.specs.Books.{parts_in, standing_in}
use Rattle.book.proofs.Walking.{Walking}
use Rattle.book.proofs.book.Book.follow.Given as goal

abbrev pub invariant-loop-i : goal.invariant-loop-i
invariant-loop-i l =
    Walking (parts_in l.self).group (next (parts_in l.self).group (standing_in l.self) l.exchange.p l.exchange.q) (2 * l.self.setting.span) l.initial.next l.initial.place-items l.place-items l.i l.next
