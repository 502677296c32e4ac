-- The layout is the star, and the hub is dark.
use Rattle.std.proofs.Common.{refl}
use Rattle.std.proofs.lemmas.Result.{on_ok_weaker}
use Rattle.text.specs.Stars.{four_sites, dark_hub}
use Rattle.text.proofs.Starting.{dark_run}
use Rattle.text.proofs.star.star_text.Goals as goal

pub returns-clause-law : goal.returns-clause-law
returns-clause-law c =
    on_ok_weaker c.serve_new.result (dark_run _ four_sites _ dark_hub c.args.text.now c.four_sites.ensures c.dark_hub.ensures refl) c.serve_new.ensures.law
