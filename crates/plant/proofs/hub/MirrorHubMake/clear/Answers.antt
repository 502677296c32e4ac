use Rattle.std.proofs.Common.{arith}
use Rattle.plant.proofs.Answers.{darkenable}
use Rattle.plant.proofs.Turning.{cleared, cleared_sound}
use Rattle.plant.proofs.hub.MirrorHubMake.clear.Goals as goal

pub bounds-self-path : goal.bounds-self-path
bounds-self-path c = omega (arith, (darkenable _ _ _ _ c.requires).wave, c.args.self.now.sound.few_waves)

pub bounds-self-path-2 : goal.bounds-self-path-2
bounds-self-path-2 c = omega (arith, (darkenable _ _ _ _ c.requires).source, c.args.self.now.sound.few_groups)

pub invariant_of-self : goal.invariant_of-self
invariant_of-self c = record { sound = cleared_sound _ _ c.args.self.now.mirrors c.args.self.now.sound (omega arith) _ _ _ c.requires }

pub returns-clause-after : goal.returns-clause-after
returns-clause-after c = cleared _ _ c.args.self.now.mirrors c.args.self.now.sound (omega arith) _ _ _ c.requires
