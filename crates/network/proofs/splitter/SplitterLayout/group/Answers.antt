-- A group is a branch, or the number of branches.
use Rattle.std.proofs.Common.{arith}
use Rattle.network.specs.Network.{ports_of, entries_of}
use Rattle.network.specs.Verdicts.{group_few, splitter_branched}
use Rattle.network.proofs.splitter.SplitterLayout.group.Goals as goal

pub returns-clause-few : goal.returns-clause-few
returns-clause-few c =
    let x = c.args.self.now in
    let e = c.branch_of.ensures in
    let few = group_few (ports_of x.sites.items) (entries_of x.sites.items) x.branches (splitter_branched (ports_of x.sites.items) (entries_of x.sites.items) x.branches x.sound) c.args.site in
    omega arith
