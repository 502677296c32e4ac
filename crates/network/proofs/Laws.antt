-- What follows from the laws of any layout.
use Rattle.std.proofs.Common.{◌≡◌, ℕ, true, ◌⊎◌, arith}
use Rattle.network.specs.Network.{Network, Separate}

-- sessions that light one fibre share a source group or a destination group
pub one_group :
    (n : Network) → Separate n → (s d s' d' f : ℕ) → n.lights s d f ≡ true → n.lights s' d' f ≡ true →
    (n.group s ≡ n.group s') ⊎ (n.group d ≡ n.group d')
one_group n law s d s' d' f h h' = let l = law s d s' d' f in grind arith
