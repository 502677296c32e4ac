use Rattle.std.proofs.Common.{reverse}
use Rattle.reckoning.specs.Sheets.{chain_orders}
use Rattle.sheet.specs.Pages.{page_of}
use Rattle.book.specs.Standing.{parts_of}
use Rattle.book.proofs.Ordering.{Turning}
use Rattle.book.proofs.setting.Setting.write_change.Given as goal

abbrev pub invariant-loop-next : goal.invariant-loop-next
invariant-loop-next l =
    let g = (parts_of l.self).group in
    Turning g l.exchange.p l.exchange.q (chain_orders g l.exchange.p l.exchange.q (reverse l.fn.chain)) (page_of l.fn.orders) (page_of l.orders) l.dark (reverse l.next-iterator.iter.rest.now)
