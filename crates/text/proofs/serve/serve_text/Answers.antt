-- The calls are those of the text, and what is written answers them.
use Rattle.std.proofs.Common.{rules, sym}
use Rattle.text.proofs.Serving.{all_written, all_served_then}
use Rattle.text.proofs.serve.serve_text.Goals as goal

pub returns-clause-served : goal.returns-clause-served
returns-clause-served g c =
    all_written g.L.Layout c.args.controller.now c.args.text.now c.as_slice-3.result.now c.as_slice-2.result.now _ _ _ c.write_answers.result (search rules) (search rules) c.in_ok-answers.ensures.served (rw (sym c.as_slice-4.ensures.value) c.write_answers.ensures)

pub returns-clause-failed : goal.returns-clause-failed
returns-clause-failed g c =
    search (rules, all_served_then)
