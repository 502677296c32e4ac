use Rattle.std.proofs.Common.{◌≡◌, map, take}
use Rattle.book.specs.Books.{parts_in, standing_in}
use Rattle.book.specs.Moves.{session_at}
use Rattle.book.proofs.book.Book.sessions_at.Given as goal

abbrev pub invariant-loop-code : goal.invariant-loop-code
invariant-loop-code l = l.chain.items ≡ map (session_at (parts_in l.self) (standing_in l.self)) (take l.code-index l.codes)
