-- A new plant is dark.
use Rattle.reckoning.proofs.Serving.{dark_is_dark}
use Rattle.controller_tests.proofs.made.on_hub.Goals as goal

pub started-requires : goal.started-requires
started-requires g c = dark_is_dark _ _ _ c.new.ensures
