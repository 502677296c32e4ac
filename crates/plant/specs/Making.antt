-- Which counts and registers make a plant.
use Rattle.std.specs.Prelude.{ℕ, ◌*◌, Bool, cond, ◌&&◌, is_ok, Ok, Err, Result, nat_le}
use Rattle.plant.specs.declared.refusal.MakingRefusal.{MakingRefusal}
use Rattle.plant.specs.declared.refusal.MakingRefusal.TheVariants.{Counts, Registers}

-- 1 to 32
abbrev pub is_count : ℕ → Bool
is_count n = nat_le 1 n && nat_le n 32

abbrev pub hub_verdict : ℕ → ℕ → Result (Unit {0}) MakingRefusal
hub_verdict waves groups = cond (is_count waves && is_count groups) (Ok tt) (Err Counts)

-- bytes: how many register bytes there are
abbrev pub fabric_verdict : ℕ → ℕ → ℕ → Result (Unit {0}) MakingRefusal
fabric_verdict waves groups bytes =
    cond (is_count waves && is_count groups)
    (cond (nat_le (waves * groups) bytes) (Ok tt) (Err Registers))
    (Err Counts)

-- a count of a plant, 0 where its making was refused
abbrev pub granted : Result (Unit {0}) MakingRefusal → ℕ → ℕ
granted verdict count = cond (is_ok verdict) count 0
