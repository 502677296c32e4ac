-- What a key names.
use Rattle.std.specs.Prelude.{ℕ, Bool, ◌==◌}
use Rattle.reckoning.specs.declared.session.Session.{Session}
use Rattle.reckoning.specs.Standing.{bears, leaves, enters}
use Rattle.book.specs.declared.key.Key.{Key}
use Rattle.book.specs.declared.key.Key.TheVariants.{Number, Out, Into, From, To}

-- g gives the group of a site
abbrev pub suits : (ℕ → ℕ) → Key → Session → Bool
suits g (Number n) s = bears n s
suits g (Out w a) s = leaves g w a s
suits g (Into w b) s = enters g w b s
suits g (From site) s = s.source == site
suits g (To site) s = s.destination == site
