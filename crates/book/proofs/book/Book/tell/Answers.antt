-- Rows are as many from either end.
use Rattle.std.proofs.Common.{◌≡◌, count_by, sym, ◌∙◌, rules}
use Rattle.book.specs.Books.{parts_in}
use Rattle.book.specs.Keys.{suits}
use Rattle.book.proofs.Rows.{count_reverse}
use Rattle.book.proofs.book.Book.tell.Goals as goal

pub returns : goal.returns
returns c =
    let b = c.args.self.now in
    let p = suits (parts_in b).group c.args.key in
    let h : c.count.result ≡ count_by p b.rows.items = search rules in
    h ∙ sym (count_reverse p b.rows.items)
