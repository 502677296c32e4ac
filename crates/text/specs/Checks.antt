-- The table that answers a text which is read and not served.
use Rattle.std.specs.Prelude.{ℕ, List, map, Ok, Err, Result}
use Rattle.request.specs.Lines.{read_text}
use Rattle.text.specs.Rows.{plain_row, fault_row, table_bytes}
use Rattle.text.specs.declared.answers.Row.{Row}
use Rattle.request.specs.declared.fault.RunFault.{RunFault}
use Rattle.request.specs.declared.reader.Entry.{Entry}
use Rattle.request.specs.declared.act.Request.{Request}

abbrev pub outcome_row : ℕ → Result Request RunFault → Row
outcome_row n (Ok q) = plain_row n
outcome_row n (Err f) = fault_row n f

abbrev pub check_row : Entry → Row
check_row e = outcome_row e.line e.outcome

abbrev pub check_table : List ℕ → List ℕ
check_table bs = table_bytes (map check_row (read_text bs))
