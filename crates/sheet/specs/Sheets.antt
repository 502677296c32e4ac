-- A sheet as its caller sees it, and what its calls answer and leave.
use Rattle.std.specs.Prelude.{ℕ, ◌+◌, cond, List, ◌++◌, length, take, drop, Some, None, Ok, Err, Option, Result, nat_lt, slice_get, slice_set}
use Rattle.std.specs.Option.{ok_or}
use Rattle.sheet.specs.declared.refusal.SheetRefusal.{SheetRefusal}
use Rattle.sheet.specs.declared.refusal.SheetRefusal.TheVariants.{Full, Unwritten}

-- which memory was lent, how many records are written, and what all of its places hold
pub record Page (X : Type 0) : Type 0 where
  pub memory : ℕ
  pub count : ℕ
  pub places : List X

abbrev pub refusal_number : SheetRefusal → ℕ
refusal_number Full = 41
refusal_number Unwritten = 42

-- the records written
abbrev pub records : {X : Type 0} → Page X → List X
records s = take s.count s.places

-- None leaves a sheet as it is; else it is emptied first, and the places behind what is written are kept
abbrev pub rewritten : {X : Type 0} → Option (List X) → Page X → Page X
rewritten None s = s
rewritten (Some xs) s = record { memory = s.memory; count = length xs; places = xs ++ drop (length xs) s.places }

-- is a place unused?
abbrev pub put_answer : {X : Type 0} → Page X → Result (Unit {0}) SheetRefusal
put_answer s = cond (nat_lt s.count (length s.places)) (Ok tt) (Err Full)

-- one record more, where a place is unused
abbrev pub with_record : {X : Type 0} → Page X → X → Page X
with_record s x =
    cond (nat_lt s.count (length s.places)) (record { memory = s.memory; count = s.count + 1; places = slice_set s.places s.count x }) s

-- the record at i, of those written
abbrev pub record_at : {X : Type 0} → List X → ℕ → Result X SheetRefusal
record_at xs i = ok_or (slice_get xs i) Unwritten
