-- What the loop over the sites keeps.
use Rattle.std.proofs.Common.{◌≡◌, length, take}
use Rattle.network.specs.Network.{ports_of, entries_of}
use Rattle.network.proofs.splitter.sites_of.Given as goal

-- the sites so far are those of the front of both lists
abbrev pub invariant-loop-count : goal.invariant-loop-count
invariant-loop-count l =
    (ports_of l.sites.items ≡ take (length l.yielded) l.ports)
    × (entries_of l.sites.items ≡ take (length l.yielded) l.entries)
    × (length l.sites.items ≡ length l.yielded)
