use Rattle.std.proofs.Common.{arith}
use Rattle.std.proofs.lemmas.Grind.{common_steps}
use Rattle.plant.proofs.Writing.{dark_registers}
use Rattle.plant.proofs.fabric.RegisterFabric.dark.Goals as goal

pub returns-clause-dark : goal.returns-clause-dark
returns-clause-dark c = dark_registers _ _ c.args.registers.now c.requires _ (grind (arith, common_steps))
