use Rattle.std.proofs.Common.{ℕ, ◌+◌, set, ap, ◌∙◌, arith}
use Rattle.plant.specs.Registers.{fabric_switch}
use Rattle.plant.specs.Proper.{fabric_proper}
use Rattle.plant.proofs.Answers.{lightable}
use Rattle.plant.proofs.Writing.{entered}
use Rattle.plant.proofs.fabric.RegisterFabricMake.set.Goals as goal

pub place-at-requires : goal.place-at-requires
place-at-requires c = let able = lightable _ _ _ _ c.requires in (omega (arith, able.wave, c.counts.ensures.waves), omega (arith, able.destination, c.counts.ensures.groups))

pub overflow_add-self : goal.overflow_add-self
overflow_add-self c = omega (arith, (lightable _ _ _ _ c.requires).source, (fabric_proper c.args.self.now.waves c.args.self.now.groups c.args.self.now.registers.now).few_groups, c.counts.ensures)

pub returns-clause-after : goal.returns-clause-after
returns-clause-after c =
    let f = c.args.self.now in
    let p = c.args.path in
    ap (λ (k : ℕ). fabric_switch f.waves f.groups (set f.registers.now k (p.source + 1))) c.place-at.ensures.at
    ∙ entered f.waves f.groups f.registers.now _ _ c.counts.ensures.waves c.counts.ensures.groups p.wavelength p.source p.destination c.requires
