use Rattle.std.proofs.Common.{◌≡◌, Some}
use Rattle.std.specs.List.{range_with_len}
use Rattle.reckoning.specs.Lists.{flat}
use Rattle.sheet.specs.Pages.{page_of}
use Rattle.sheet.specs.Sheets.{rewritten}
use Rattle.book.specs.Standing.{parts_of, standing}
use Rattle.book.specs.Calls.{rows_on}
use Rattle.book.proofs.book.Book.write_rows.Given as goal

abbrev pub invariant-loop-w : goal.invariant-loop-w
invariant-loop-w l =
    (page_of l.rows) ≡ rewritten (Some (flat (rows_on (parts_of l.self.setting) (standing l.self.rows)) (range_with_len 0 l.w))) (page_of l.fn.rows)
