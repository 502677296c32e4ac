use Rattle.std.proofs.Common.{◌≡◌, map, length, take}
use Rattle.reckoning.specs.Sheets.{retuning}
use Rattle.book.specs.Standing.{parts_of}
use Rattle.book.proofs.setting.Setting.retunings.Given as goal

abbrev pub invariant-loop-i : goal.invariant-loop-i
invariant-loop-i l =
    (length l.changes ≡ 32)
    × (take l.i l.changes ≡ map (retuning (parts_of l.self).group l.exchange.p l.exchange.q) (take l.i l.chain))
