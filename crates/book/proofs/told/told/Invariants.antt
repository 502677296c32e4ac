use Rattle.std.proofs.Common.{◌≡◌, map}
use Rattle.std.specs.List.{range_with_len}
use Rattle.book.proofs.Tables.{site_of}
use Rattle.book.proofs.told.told.Given as goal

abbrev pub invariant-loop-s : goal.invariant-loop-s
invariant-loop-s g l = l.sites.items ≡ map (site_of (g.L.Layout.network l.layout)) (range_with_len 0 l.s)
