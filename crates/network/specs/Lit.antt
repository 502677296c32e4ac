-- What is lit, in every layout that numbers its fibres in pairs of an up-fibre and a down-fibre.
use Rattle.std.specs.Prelude.{◌≡◌, ℕ, ◌+◌, ◌*◌, true, ◌⊎◌}
use Rattle.std.proofs.Common.{arith, inl, inr}
use Rattle.network.specs.Network.{Network, Ends, Separate, Meeting, two_sites, up_or_down}

pub ends_from : (sites s d : ℕ) → two_sites sites s d ≡ true → Ends sites s d
ends_from sites s d h = record { source = grind arith; destination = grind arith; differ = grind arith }

pub from_ends : (sites s d : ℕ) → Ends sites s d → two_sites sites s d ≡ true
from_ends sites s d e = let a = e.source in let b = e.destination in let c = e.differ in grind arith

-- what is said of a pair of fibres
pub up_or_down_lem : (first a b f : ℕ) → up_or_down first a b f ≡ true → (f ≡ first + 2 * a) ⊎ (f ≡ first + 2 * b + 1)
up_or_down_lem first a b f h = grind arith

pub up : (first a b : ℕ) → up_or_down first a b (first + 2 * a) ≡ true
up first a b = grind arith

pub down : (first a b : ℕ) → up_or_down first a b (first + 2 * b + 1) ≡ true
down first a b = grind arith

-- f is a fibre of one of the two sites, or of one of the two groups' trunks, which are numbered after the sites' fibres
abbrev pub Laid : Network → ℕ → ℕ → ℕ → Type 0
Laid n s d f =
    ((f ≡ 2 * s) ⊎ (f ≡ 2 * d + 1)) ⊎ ((f ≡ 2 * n.sites + 2 * n.group s) ⊎ (f ≡ 2 * n.sites + 2 * n.group d + 1))

-- two sessions that light one fibre have a site in common, at the same end, or a trunk
pub separate_from : (n : Network) → ((s d f : ℕ) → n.lights s d f ≡ true → Ends n.sites s d × Laid n s d f) → Separate n
separate_from n lit s d s' d' f sources destinations h h' =
    let p = lit s d f h in let q = lit s' d' f h' in grind arith

-- two sessions of one group meet where each group has an up-fibre and a down-fibre that all its sessions light
pub meeting_from :
    (n : Network) (first : ℕ) →
    ((s d : ℕ) → Ends n.sites s d → (n.lights s d (first + 2 * n.group s) ≡ true) × (n.lights s d (first + 2 * n.group d + 1) ≡ true)) →
    Meeting n
meeting_from n first lit s d s' d' e e' (inl same) =
    let q = lit s' d' e' in (first + 2 * n.group s, (lit s d e).0, grind arith)
meeting_from n first lit s d s' d' e e' (inr same) =
    let q = lit s' d' e' in (first + 2 * n.group d + 1, (lit s d e).1, grind arith)
