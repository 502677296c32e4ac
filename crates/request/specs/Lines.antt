-- The lines of a text, and what each reads as.
use Rattle.std.specs.Prelude.{ℕ, ◌+◌, Bool, true, false, cond, ◌&&◌, List, [], ◌∷◌, length, Ok, Err, codes, Result, ◌==◌, nat_le}
use Rattle.std.specs.Str.{bytes_eq}
use Rattle.request.specs.Requests.{then, keep, words_act}
use Rattle.request.specs.Words.{split_spaces, five_words}
use Rattle.request.specs.declared.fault.LineFault.{LineFault}
use Rattle.request.specs.declared.fault.LineFault.TheVariants.{Unended}
use Rattle.request.specs.declared.fault.RunFault.{RunFault}
use Rattle.request.specs.declared.fault.RunFault.TheVariants as run
use Rattle.request.specs.declared.act.Request.{Request}
use Rattle.request.specs.declared.lines.Line as code
use Rattle.request.specs.declared.reader.Entry.{Entry}

-- a line without its byte 10, and whether it has one
pub record Line : Type 0 where
  pub bytes : List ℕ
  pub ended : Bool

-- the line, where the code has it
abbrev pub line_of : code.Line → Line
line_of l = record { bytes = l.bytes.now; ended = l.ended }

abbrev pub grow : ℕ → List Line → List Line
grow b [] = record { bytes = b ∷ []; ended = false } ∷ []
grow b (l ∷ ls) = record { bytes = b ∷ l.bytes; ended = l.ended } ∷ ls

abbrev pub lines_of : List ℕ → List Line
lines_of [] = []
lines_of (b ∷ bs) = cond (b == 10) (record { bytes = []; ended = true } ∷ lines_of bs) (grow b (lines_of bs))

-- line n
abbrev pub read_line : ℕ → Line → Result Request LineFault
read_line n l = cond l.ended (then keep (five_words (split_spaces l.bytes)) (λ w. then keep (words_act w) (λ a. Ok (record { line = n; act = a })))) (Err Unended)

abbrev pub line_outcome : ℕ → Line → Result Request RunFault
line_outcome n l = then run.Line (read_line n l) (λ q. Ok q)

-- the lines in turn, the first being line n
abbrev pub read_lines : ℕ → List Line → List Entry
read_lines n [] = []
read_lines n (l ∷ ls) = record { line = n; outcome = line_outcome n l } ∷ read_lines (n + 1) ls

abbrev pub is_names : Line → Bool
is_names l = l.ended && bytes_eq l.bytes (codes "op session from to limit")

abbrev pub behind_names : List Line → Result (List Line) RunFault
behind_names [] = Err run.NoNames
behind_names (l ∷ ls) = cond (is_names l) (Ok ls) (Err run.NoNames)

-- the lines behind the names line, of a text that is not too long
abbrev pub request_lines : List ℕ → Result (List Line) RunFault
request_lines bs = cond (nat_le (length bs) 65536) (behind_names (lines_of bs)) (Err run.TooLong)

abbrev pub answered : Result (List Line) RunFault → List Entry
answered (Ok ls) = read_lines 2 ls
answered (Err f) = record { line = 1; outcome = Err f } ∷ []

abbrev pub read_text : List ℕ → List Entry
read_text bs = answered (request_lines bs)
