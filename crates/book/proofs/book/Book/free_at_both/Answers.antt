-- The lowest bit that is set in neither mask.
use Rattle.book.proofs.Free.{both_found, both_none}
use Rattle.book.proofs.book.Book.free_at_both.Goals as goal

pub returns : goal.returns
returns c =
    let b = c.args.self.now in
    record {
      found = both_found b c.args.a c.args.b c.requires.0 c.requires.1 _ _ c.at.ensures c.at-2.ensures c.lowest_free.result c.lowest_free.ensures;
      none = both_none b c.args.a c.args.b c.requires.0 c.requires.1 _ _ c.at.ensures c.at-2.ensures c.lowest_free.result c.lowest_free.ensures;
    }
