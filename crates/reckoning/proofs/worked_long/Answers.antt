-- The longer cases compute to what is written down.
use Rattle.std.proofs.Common.{refl}
use Rattle.reckoning.proofs.worked_long.Goals as goal

pub returns : goal.returns
returns c =
    ((refl, refl, refl, refl), ((refl, refl, refl, refl), tt))
