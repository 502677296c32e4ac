use Rattle.plant.proofs.Turning.{dark_sound, dark_mirrors}
use Rattle.plant.proofs.hub.MirrorHub.dark.Goals as goal

pub invariant_of-result : goal.invariant_of-result
invariant_of-result c = record { sound = dark_sound _ _ c.requires.few.0 c.requires.few.1 c.requires.both }

pub returns : goal.returns
returns c = dark_mirrors _ _ c.requires.few.0 c.requires.few.1
