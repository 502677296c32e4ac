use Rattle.std.proofs.Common.{◌≡◌, ◌++◌, map, drop, vec_items}
use Rattle.controller.specs.Service.{answer_of}
use Rattle.text.specs.Answered.{rows_for}
use Rattle.text.proofs.replies.answer_rows.Given as goal

abbrev pub invariant-loop-entry : goal.invariant-loop-entry
invariant-loop-entry l =
    vec_items l.rows ++ rows_for (drop l.entry-index l.entries) (map answer_of l.left.rest.now)
    ≡ rows_for l.entries (map answer_of l.answers)
