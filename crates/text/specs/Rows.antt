-- The bytes of the answer table.
use Rattle.std.specs.Prelude.{ℕ, List, ◌++◌, Some, None, codes, decimal, Option}
use Rattle.std.specs.List.{flat_map}
use Rattle.std.specs.Option.{option_map_or}
use Rattle.request.specs.Faults.{layer_bytes, run_number, run_layer, run_word}
use Rattle.request.specs.declared.fault.RunFault.{RunFault}
use Rattle.text.specs.declared.answers.Row.{Row}

-- the row of a line that is accepted, of which no more is told
abbrev pub plain_row : ℕ → Row
plain_row n = record { line = n; answer = 0; layer = None; word = None; wavelength = None; moves = None }

-- the row that answers a fault
abbrev pub fault_row : ℕ → RunFault → Row
fault_row n f = record { line = n; answer = run_number f; layer = Some (run_layer f); word = run_word f; wavelength = None; moves = None }

-- what is written of a value, or `-` where there is none
abbrev pub or_dash : {X : Type 0} → (X → List ℕ) → Option X → List ℕ
or_dash written o = option_map_or written o (codes "-")

abbrev pub row_bytes : Row → List ℕ
row_bytes r =
    decimal r.line ++ (codes " " ++ (decimal r.answer ++ (codes " " ++ (or_dash layer_bytes r.layer ++ (codes " " ++ (or_dash decimal r.word ++ (codes " "
    ++ (or_dash decimal r.wavelength ++ (codes " " ++ (or_dash decimal r.moves ++ codes "\n"))))))))))

unfoldable pub table_names : List ℕ
table_names = codes "line answer layer word wavelength moves\n"

abbrev pub table_bytes : List Row → List ℕ
table_bytes rs = table_names ++ flat_map row_bytes rs
