-- The orders are written and the change is told before the rows change.
use Rattle.std.proofs.Common.{◌≤◌, [], ◌∷◌, ◌++◌, reverse, length, refl, arith}
use Rattle.std.proofs.lemmas.List.{length-append, length-reverse}
use Rattle.reckoning.specs.declared.order.Kind.TheVariants.{Light}
use Rattle.reckoning.specs.Sheets.{order, chain_orders}
use Rattle.reckoning.proofs.Admissions.{chain_length}
use Rattle.sheet.specs.Pages.{page_of}
use Rattle.book.specs.Books.{parts_in}
use Rattle.book.proofs.Listing.{page_long}
use Rattle.book.proofs.book.Book.carry_out.Goals as goal

pub returns : goal.returns
returns c =
    let g = (parts_in c.args.self.now).group in
    let es = c.args.chain.now in
    let change = chain_orders g c.args.exchange.p c.args.exchange.q (reverse es) in
    let xs = change ++ (order g Light c.args.new ∷ []) in
    let fit : length xs ≤ length (page_of c.args.orders.now).places =
    omega (arith, c.requires.room, length-append change (order g Light c.args.new ∷ []), chain_length g c.args.exchange.p c.args.exchange.q (reverse es), length-reverse es)
    in
    record {
      room = (page_long xs (page_of c.args.orders.now) (page_of c.write_orders.new.orders) c.write_orders.ensures fit).1;
      setting = c.enter.ensures.setting;
      standing = c.enter.ensures.stands;
      orders = c.write_orders.ensures;
      moves = refl;
      chain_changes = c.retunings.ensures;
      path = c.lightpath.ensures;
    }
