-- The law over all runs of a controller with its plant and sheets.
use Rattle.reckoning.proofs.LawOfRuns.{law_of_runs}
use Rattle.reckoning.proofs.lawful.Goals as goal

pub returns : goal.returns
returns c = law_of_runs
