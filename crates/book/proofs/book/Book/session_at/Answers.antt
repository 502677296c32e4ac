-- The session out of the group that the code names.
use Rattle.std.proofs.Common.{◌≡◌, Some, None, Option, ap, ◌∙◌, unwrap_or}
use Rattle.std.specs.Option.{UnwrapsOrElse}
use Rattle.reckoning.specs.declared.session.Session.{Session}
use Rattle.book.specs.Moves.{session_at, nobody}
use Rattle.book.proofs.book.Book.session_at.Goals as goal

abbrev Blank : Session → Type 0
Blank s = (s.number ≡ 0) × ((s.source ≡ 0) × ((s.destination ≡ 0) × (s.wavelength ≡ 0)))

-- a session of zeros is nobody
or_nobody : (o : Option Session) (r : Session) → UnwrapsOrElse o Blank r → r ≡ unwrap_or o nobody
or_nobody None r h = λ i. record { number = h.0 i; source = h.1.0 i; destination = h.1.1.0 i; wavelength = h.1.1.1 i }
or_nobody (Some s) r h = h

pub returns : goal.returns
unfolding session_at
returns c = or_nobody c.look_up.result c.unwrap_or_default.result c.unwrap_or_default.ensures ∙ ap (λ (o : Option Session). unwrap_or o nobody) c.look_up.ensures
