use Rattle.std.proofs.Common.{◌≡◌, arith, rules, tests}
use Rattle.commission.proofs.Ranges.{each_of_Range}
use Rattle.commission.proofs.compare.agree_on.Goals as goal

pub returns-clause-yes : goal.returns-clause-yes
returns-clause-yes g c t b h =
    let first = g.A.Plant.state c.args.first.now in
    let second = g.B.Plant.state c.args.second.now in
    each_of_Range _ _ _ _ (λ x. first.hears c.args.w x ≡ second.hears c.args.w x) c.all.ensures.ran (λ x q k. search (rules, tests)) t b (omega arith)
