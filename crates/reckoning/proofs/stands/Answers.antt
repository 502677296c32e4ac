-- The laws over all runs.
use Rattle.reckoning.proofs.AlwaysSafe.{always_safe}
use Rattle.reckoning.proofs.stands.Goals as goal

pub returns : goal.returns
returns c = always_safe
