-- No site has more than 32 ports.
use Rattle.std.proofs.Common.{◌≡◌, slice_index, arith}
use Rattle.std.proofs.lemmas.Grind.{common_steps}
use Rattle.network.specs.Network.{ports_of, entries_of}
use Rattle.network.specs.Splitters.{splitter_bounded}
use Rattle.network.specs.Verdicts.{splitter_branched}
use Rattle.network.proofs.splitter.SplitterLayout.ports.Goals as goal

pub returns-clause-few : goal.returns-clause-few
returns-clause-few c =
    let x = c.args.self.now in
    let v : c.map_or.result ≡ slice_index (ports_of x.sites.items) c.args.site = grind (arith, common_steps) in
    let b = splitter_bounded (ports_of x.sites.items) (entries_of x.sites.items) x.branches (splitter_branched (ports_of x.sites.items) (entries_of x.sites.items) x.branches x.sound) in
    let few = b.few_ports c.args.site in
    omega arith
