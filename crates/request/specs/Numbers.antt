-- What a word reads as where a number belongs.
use Rattle.std.specs.Prelude.{ℕ, ◌+◌, ◌-◌, ◌*◌, cond, List, [], ◌∷◌, Ok, Err, Result, nat_lt}
use Rattle.std.specs.Str.{all_ascii_digits}
use Rattle.request.specs.declared.fault.NumberFault.{NumberFault}
use Rattle.request.specs.declared.fault.NumberFault.TheVariants.{NotDigits, TooLarge}

-- the number that digits write, behind digits that write n
abbrev pub value_after : ℕ → List ℕ → ℕ
value_after n [] = n
value_after n (d ∷ ds) = value_after (n * 10 + (d - 48)) ds

abbrev pub value : List ℕ → ℕ
value ds = value_after 0 ds

-- word w of a line, where a number is below 2 ^ 32
abbrev pub sized : ℕ → ℕ → Result ℕ NumberFault
sized w n = cond (nat_lt n 4294967296) (Ok n) (Err (TooLarge w))

unfoldable pub read_number : ℕ → List ℕ → Result ℕ NumberFault
read_number w [] = Err (NotDigits w)
read_number w (b ∷ bs) = cond (all_ascii_digits (b ∷ bs)) (sized w (value (b ∷ bs))) (Err (NotDigits w))
