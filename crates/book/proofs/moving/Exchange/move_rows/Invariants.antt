use Rattle.std.proofs.Common.{◌≡◌, ◌++◌, map, take, drop}
use Rattle.book.specs.Moves.{shift}
use Rattle.book.proofs.moving.Exchange.move_rows.Given as goal

abbrev pub invariant-loop-row : goal.invariant-loop-row
invariant-loop-row l = l.row-items ≡ map (shift l.chain l.self.p l.self.q) (take l.row-index l.initial.row-items) ++ drop l.row-index l.initial.row-items
