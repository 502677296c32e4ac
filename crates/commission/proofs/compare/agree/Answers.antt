use Rattle.std.proofs.Common.{◌≡◌, ◌<◌, ℕ, arith, rules, tests}
use Rattle.plant.specs.Switch.{Switch}
use Rattle.commission.proofs.Ranges.{each_of_Range}
use Rattle.commission.proofs.compare.agree.Goals as goal

pub returns-then-groups-clause-yes : goal.returns-then-groups-clause-yes
returns-then-groups-clause-yes g c t =
    let first : Switch = g.A.Plant.state c.args.first.now in
    let second : Switch = g.B.Plant.state c.args.second.now in
    let Alike : ℕ → Type 0 = λ w. (b : ℕ) → b < first.groups → first.hears w b ≡ second.hears w b in
    let each : (w : ℕ) → w < first.waves → Alike w =
    λ w h. each_of_Range _ _ _ _ Alike c.all.ensures.ran (λ x q k. search (rules, tests)) t w (omega arith) in
    search rules
