-- The rows of the answer table for a text that is served.
use Rattle.std.specs.Prelude.{ℕ, List, [], ◌∷◌, ◌++◌, drop, Some, None, Ok, Err, Result}
use Rattle.request.specs.declared.act.Request.{Request}
use Rattle.request.specs.declared.fault.RunFault.{RunFault}
use Rattle.request.specs.declared.layer.Layer.TheVariants.{Session}
use Rattle.request.specs.declared.reader.Entry.{Entry}
use Rattle.reckoning.specs.Calls.{Answer, refused, admitted, quoted, released, found, listed}
use Rattle.text.specs.Rows.{plain_row, fault_row}
use Rattle.text.specs.declared.answers.Row.{Row}

-- a request that was accepted, with its wavelength and its moves
abbrev pub accepted_row : ℕ → ℕ → ℕ → Row
accepted_row n w m = record { line = n; answer = 0; layer = None; word = None; wavelength = Some w; moves = Some m }

-- a request that the session layer refused
abbrev pub refused_row : ℕ → ℕ → Row
refused_row n k = record { line = n; answer = k; layer = Some Session; word = None; wavelength = None; moves = None }

-- the row of line n, by the answer to its call; no line asks for a list, which would have neither wavelength nor moves
abbrev pub answer_row : ℕ → Answer → Row
answer_row n (refused k) = refused_row n k
answer_row n (admitted w m) = accepted_row n w m
answer_row n (quoted w m) = accepted_row n w m
answer_row n (released w) = accepted_row n w 0
answer_row n (found w s d) = accepted_row n w 0
answer_row n (listed k) = plain_row n

-- the row of one line: its fault, or the first of the answers
abbrev pub row_for : ℕ → Result Request RunFault → List Answer → List Row
row_for n (Err f) xs = fault_row n f ∷ []
row_for n (Ok q) [] = []
row_for n (Ok q) (x ∷ xs) = answer_row n x ∷ []

-- the answers for the lines behind it
abbrev pub answers_behind : Result Request RunFault → List Answer → List Answer
answers_behind (Err f) xs = xs
answers_behind (Ok q) xs = drop 1 xs

-- a row for each line; each that reads well takes the next answer
abbrev pub rows_for : List Entry → List Answer → List Row
rows_for [] xs = []
rows_for (e ∷ es) xs = row_for e.line e.outcome xs ++ rows_for es (answers_behind e.outcome xs)
