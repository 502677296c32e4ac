-- A controller as made, on a dark plant.
use Rattle.controller_tests.proofs.made.started.Goals as goal

pub returns : goal.returns
returns g c orders rows walk = c.new.ensures.start c.requires orders rows walk
