-- A number is borne where a session is found by it.
use Rattle.std.proofs.Common.{is_some, Option, ap, ◌∙◌}
use Rattle.reckoning.specs.declared.session.Session.{Session}
use Rattle.reckoning.specs.Standing.{bears}
use Rattle.book.specs.Books.{standing_in}
use Rattle.book.proofs.Asking.{any_first}
use Rattle.book.proofs.book.Book.is_borne.Goals as goal

pub returns : goal.returns
returns c = c.is_some.ensures ∙ (ap (λ (o : Option Session). is_some o) c.look_up.ensures ∙ any_first (bears c.args.number) (standing_in c.args.self.now))
