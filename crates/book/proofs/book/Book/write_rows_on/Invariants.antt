use Rattle.std.proofs.Common.{◌≡◌}
use Rattle.reckoning.specs.Lists.{first}
use Rattle.reckoning.specs.Standing.{leaves}
use Rattle.sheet.specs.Pages.{page_of}
use Rattle.book.specs.Standing.{parts_of, standing}
use Rattle.book.proofs.Listing.{behind}
use Rattle.book.proofs.book.Book.write_rows_on.Given as goal

abbrev pub invariant-loop-a : goal.invariant-loop-a
invariant-loop-a l =
    (page_of l.rows) ≡ behind (λ a. first (leaves (parts_of l.self.setting).group l.w a) (standing l.self.rows)) (page_of l.initial.rows) l.a
