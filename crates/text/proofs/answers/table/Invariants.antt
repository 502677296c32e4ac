use Rattle.std.proofs.Common.{◌≡◌, take, string_bytes}
use Rattle.text.specs.Rows.{table_bytes}
use Rattle.text.proofs.answers.table.Given as goal

abbrev pub invariant-loop-row : goal.invariant-loop-row
invariant-loop-row l = string_bytes l.out ≡ table_bytes (take l.row-index l.rows)
