use Rattle.std.proofs.Common.{◌≡◌, ℕ, ◌<◌, reverse, take, slice_index}
use Rattle.reckoning.specs.Masks.{out_mask, into_mask}
use Rattle.book.specs.Standing.{parts_of}
use Rattle.book.proofs.setting.Setting.masks.Given as goal

abbrev pub invariant-loop-s : goal.invariant-loop-s
invariant-loop-s l =
    ((a : ℕ) → a < 32 → slice_index l.outward.lit a ≡ out_mask (parts_of l.self) (reverse (take l.s-index l.rows)) a)
    × ((b : ℕ) → b < 32 → slice_index l.inward.lit b ≡ into_mask (parts_of l.self) (reverse (take l.s-index l.rows)) b)
