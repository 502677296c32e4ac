-- The bytes of the list of the standing sessions.
use Rattle.std.specs.Prelude.{ℕ, ◌-◌, Bool, true, false, cond, List, [], ◌∷◌, ◌++◌, length, Some, None, codes, decimal, Option, slice_index_or}
use Rattle.std.specs.List.{flat_map}
use Rattle.reckoning.specs.declared.session.Session.{Session}
use Rattle.sheet.specs.Sheets.{Page, records}
use Rattle.reckoning.specs.Calls.{Answer, refused, admitted, quoted, released, found, listed, Reply}

-- a line of the list
abbrev pub session_bytes : Session → List ℕ
session_bytes s =
    decimal s.number ++ (codes " " ++ (decimal s.source ++ (codes " " ++ (decimal s.destination ++ (codes " " ++ (decimal s.wavelength ++ codes "\n"))))))

-- the names line of the list
unfoldable pub list_names : List ℕ
list_names = codes "session from to wavelength\n"

-- the names line, and the lines
abbrev pub list_bytes : List Session → List ℕ
list_bytes ss = list_names ++ flat_map session_bytes ss

-- what a call writes into the row sheet
abbrev pub rows_written : Option (List Session) → List Session
rows_written None = []
rows_written (Some ss) = ss

-- the rows that the last of the calls writes
abbrev pub last_rows : List Reply → List Session
last_rows [] = []
last_rows (y ∷ []) = rows_written y.rows
last_rows (y ∷ z ∷ ys) = last_rows (z ∷ ys)

-- is it the answer to a list that was accepted?
abbrev pub is_listed : Answer → Bool
is_listed (refused k) = false
is_listed (admitted w m) = false
is_listed (quoted w m) = false
is_listed (released w) = false
is_listed (found w s d) = false
is_listed (listed k) = true

-- is the last answer that of a list which was accepted?
abbrev pub ends_listed : List Answer → Bool
ends_listed xs = is_listed (slice_index_or xs (length xs - 1) (refused 0))

-- what a sheet holds after the calls: a refused list leaves the sheet as it was, so no rows are shown
abbrev pub rows_shown : List Answer → Page Session → List Session
rows_shown xs p = cond (ends_listed xs) (records p) []
