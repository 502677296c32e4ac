-- The names line, and one row after the other.
use Rattle.std.proofs.Common.{arith}
use Rattle.std.proofs.lemmas.Grind.{common_steps}
use Rattle.std.proofs.lemmas.List.{flat_map_more, take_more}
use Rattle.text.specs.Rows.{table_names}
use Rattle.text.proofs.answers.table.Goals as goal

pub loop-row-init : goal.loop-row-init
unfolding table_names
loop-row-init c = grind (arith, common_steps)

pub loop-row-preserved : goal.loop-row-preserved
loop-row-preserved c = grind (arith, common_steps, flat_map_more, take_more)
