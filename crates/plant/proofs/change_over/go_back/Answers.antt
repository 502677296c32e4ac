-- What is left to do gives what the whole was to give.
use Rattle.std.proofs.Common.{Err, ap, ◌∙◌}
use Rattle.std.proofs.lemmas.Result.{err_from_is_err_and}
use Rattle.plant.proofs.Carrying.{handed_out, turned_down, turned, broken_off}
use Rattle.plant.proofs.change_over.go_back.Goals as goal

pub returns-in_err-held-clause-answer : goal.returns-in_err-held-clause-answer
returns-in_err-held-clause-answer g c =
    let p = err_from_is_err_and c.from_residual.result c.from_residual.ensures.1 in
    let loop = c.loop-next in
    p.1 ∙ ap Err p.2 ∙ (broken_off (g.P.Plant.state loop.plant) _ _ loop.dark _ _ _ _ c.in-Some.ensures.steps loop.invariant.1 _ (turned_down _ _ _ c.in_err-held.ensures.answer) c.in_err-held.ensures.after).0

pub loop-next-preserved : goal.loop-next-preserved
loop-next-preserved g c =
    let s = handed_out _ _ _ c.in_ok-held.ensures.answer in
    let loop = c.loop-next in
    (s.1, turned (g.P.Plant.state loop.plant) _ _ loop.dark _ _ _ _ c.in-Some.ensures.steps loop.invariant.1 s.0 c.in_ok-held.ensures.after, c.in_ok-held.ensures.kept ∙ loop.invariant.2)
