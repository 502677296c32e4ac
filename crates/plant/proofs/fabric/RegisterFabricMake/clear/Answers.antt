use Rattle.std.proofs.Common.{ℕ, set, ap, ◌∙◌, arith}
use Rattle.plant.specs.Registers.{fabric_switch}
use Rattle.plant.proofs.Answers.{darkenable}
use Rattle.plant.proofs.Writing.{erased}
use Rattle.plant.proofs.fabric.RegisterFabricMake.clear.Goals as goal

pub place-at-requires : goal.place-at-requires
place-at-requires c = let able = darkenable _ _ _ _ c.requires in (omega (arith, able.wave, c.counts.ensures.waves), omega (arith, able.destination, c.counts.ensures.groups))

pub returns-clause-after : goal.returns-clause-after
returns-clause-after c =
    let f = c.args.self.now in
    let p = c.args.path in
    ap (λ (k : ℕ). fabric_switch f.waves f.groups (set f.registers.now k 0)) c.place-at.ensures.at
    ∙ erased f.waves f.groups f.registers.now _ _ c.counts.ensures.waves c.counts.ensures.groups p.wavelength p.source p.destination c.requires
