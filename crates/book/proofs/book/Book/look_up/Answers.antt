-- The newest row that suits is found.
use Rattle.std.proofs.Common.{◌∙◌, rules, tests}
use Rattle.std.proofs.lemmas.Iterator.Adapters.{YieldsList-from_rev_slice}
use Rattle.std.proofs.lemmas.Iterator.Search.{find_from_yields_List}
use Rattle.book.specs.Books.{parts_in, standing_in}
use Rattle.book.specs.Keys.{suits}
use Rattle.book.proofs.Rows.{find_first}
use Rattle.book.proofs.book.Book.look_up.Goals as goal

pub returns : goal.returns
returns c =
    let b = c.args.self.now in
    let p = suits (parts_in b).group c.args.key in
    c.copied.ensures
    ∙ (find_from_yields_List p _ _ c.find.result c.find.ensures.ran (YieldsList-from_rev_slice b.rows.items (cc)) (λ x b q k. search (rules, tests))
    ∙ find_first p (standing_in b))
