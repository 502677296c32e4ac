-- The standing sessions of a book.
use Rattle.std.specs.Prelude.{List}
use Rattle.reckoning.specs.declared.session.Session.{Session}
use Rattle.reckoning.specs.Parts.{Parts}
use Rattle.book.specs.declared.book.Book.{Book}
use Rattle.book.specs.Standing.{parts_of, standing}

abbrev pub parts_in : Book → Parts
parts_in b = parts_of b.setting

abbrev pub standing_in : Book → List Session
standing_in b = standing b.rows
