use Rattle.plant.proofs.Turning.{target_told}
use Rattle.plant.proofs.hub.MirrorHubMake.target_of.Goals as goal

pub returns : goal.returns
returns c = target_told _ _ _ c.args.self.now.sound _ c.if-w-self.false _ c.if-a-self.false
