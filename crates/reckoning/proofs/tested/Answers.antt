-- The test of soundness tells it.
use Rattle.reckoning.proofs.Soundness.{sound_tested}
use Rattle.reckoning.proofs.tested.Goals as goal

pub returns : goal.returns
returns c = sound_tested
