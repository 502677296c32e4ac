-- What the format means, apart from how it is read.
use Rattle.std.specs.Prelude.{◌≡◌, ℕ, ◌+◌, ◌-◌, ◌*◌, ◌^◌, ◌<◌, ◌≤◌, List, [], ◌∷◌, ◌++◌, length, Ok, Err, decimal}
use Rattle.std.specs.List.{flat_map, AllByRecursion}
use Rattle.request.specs.Lines.{Line, lines_of, read_line, read_text}
use Rattle.request.specs.Numbers.{value, read_number}
use Rattle.request.specs.Words.{Five, split_spaces, five_words}
use Rattle.request.specs.declared.act.Act.{Act}
use Rattle.request.specs.declared.act.Request.{Request}
use Rattle.request.specs.Meaning.{line_bytes, Lined, spaced, Worded, Writes, Asks, Small, written, requests}
use Rattle.request.specs.Refusals.{Refused}
use Rattle.request.specs.declared.fault.LineFault.{LineFault}

pub record FormatLaws : Type 0 where
  -- requests written out read back as themselves, each with the number of its line
  pub reads_back : (acts : List Act) → AllByRecursion Small acts → length (written acts) ≤ 65536 → read_text (written acts) ≡ requests 2 acts
  -- the lines of a text, joined again, are the text, and no other lines are
  pub lines_join : (bs : List ℕ) → flat_map line_bytes (lines_of bs) ≡ bs
  pub lines_lined : (bs : List ℕ) → Lined (lines_of bs)
  pub lines_alone : (ls : List Line) → Lined ls → lines_of (flat_map line_bytes ls) ≡ ls
  -- the words of a line, joined again by one space, are the line, and no other words are
  pub words_join : (bs : List ℕ) (w : Five) → five_words (split_spaces bs) ≡ Ok w → (spaced w ≡ bs) × Worded w
  pub words_alone : (w : Five) → Worded w → five_words (split_spaces (spaced w)) ≡ Ok w
  -- the value of digits is the number that they write
  pub value_push : (ds : List ℕ) (d : ℕ) → value (ds ++ d ∷ []) ≡ 10 * value ds + (d - 48)
  pub value_plain : (n : ℕ) → n < 2 ^ 32 → Writes (decimal n) n
  pub zeros_lead : (k : ℕ) (ds : List ℕ) → 0 < length ds → read_number k (48 ∷ ds) ≡ read_number k ds
  -- a line reads as a request just where it asks for it
  pub asks_read : (n : ℕ) (l : Line) (q : Request) → Asks n l q → read_line n l ≡ Ok q
  pub read_asks : (n : ℕ) (l : Line) (q : Request) → read_line n l ≡ Ok q → Asks n l q
  -- and is refused for the first thing that is wrong with it
  pub read_refused : (n : ℕ) (l : Line) (f : LineFault) → read_line n l ≡ Err f → Refused l f
