use Rattle.std.proofs.Common.{length}
use Rattle.search.proofs.table.+place.Given as goal

abbrev pub decreases-place : goal.decreases-place
decreases-place g l = length l.waiting.now
