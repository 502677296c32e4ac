-- The number of each refusal.
use Rattle.std.specs.Prelude.{ℕ, Ok, Err, Result}
use Rattle.book.specs.declared.refusal.CallRefusal.{CallRefusal}
use Rattle.book.specs.declared.refusal.CallRefusal.TheVariants.{Unfit, LitAtMaking, NoNumber, NoSite, SameSite, NumberTaken, NotStanding, OrderRoom, WalkRoom, RowRoom, NoTransmitter, NoReceiver, SourceFull, DestinationFull, TooManyMoves}

abbrev pub refusal_number : CallRefusal → ℕ
refusal_number Unfit = 1
refusal_number LitAtMaking = 2
refusal_number NoNumber = 11
refusal_number NoSite = 12
refusal_number SameSite = 13
refusal_number NumberTaken = 14
refusal_number NotStanding = 15
refusal_number OrderRoom = 16
refusal_number WalkRoom = 17
refusal_number RowRoom = 18
refusal_number NoTransmitter = 21
refusal_number NoReceiver = 22
refusal_number SourceFull = 23
refusal_number DestinationFull = 24
refusal_number TooManyMoves = 25

-- 0, or the number of the refusal
abbrev pub answer_number : {A : Type 0} → Result A CallRefusal → ℕ
answer_number (Ok x) = 0
answer_number (Err e) = refusal_number e
