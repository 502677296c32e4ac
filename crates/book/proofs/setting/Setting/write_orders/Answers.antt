-- The new session is lit behind the change-over.
use Rattle.std.proofs.Common.{reverse, arith}
use Rattle.std.proofs.lemmas.List.{length-reverse}
use Rattle.reckoning.specs.declared.order.Kind.TheVariants.{Light}
use Rattle.reckoning.specs.Sheets.{order, chain_orders}
use Rattle.reckoning.proofs.Admissions.{chain_length}
use Rattle.sheet.specs.Pages.{page_of}
use Rattle.book.specs.Standing.{parts_of}
use Rattle.book.proofs.Ordering.{put_next}
use Rattle.book.proofs.setting.Setting.write_orders.Goals as goal

pub returns : goal.returns
returns c =
    let g = (parts_of c.args.self.now).group in
    let es = reverse c.args.chain.now in
    put_next (page_of c.args.orders.now) (chain_orders g c.args.exchange.p c.args.exchange.q es) c.order.result (order g Light c.args.new) (page_of c.write_change.new.orders) (page_of c.put.new.self)
    (omega (arith, c.requires, chain_length g c.args.exchange.p c.args.exchange.q es, length-reverse c.args.chain.now)) c.write_change.ensures c.order.ensures c.put.ensures.page
