use Rattle.std.proofs.Common.{ℕ, Bool, refl, ◌∙◌, arith, rules, tests}
use Rattle.std.proofs.lemmas.Iterator.{YieldsList-from_range}
use Rattle.std.proofs.lemmas.Iterator.Search.{all_from_yields_List}
use Rattle.reckoning.specs.Parts.{quiet, dark_below}
use Rattle.book.proofs.Tables.{all_below}
use Rattle.book.proofs.told.is_dark_below.Goals as goal

pub returns : goal.returns
returns g c =
    let s = g.P.Plant.state c.args.plant.now in
    let test : ℕ → Bool = λ w. quiet s.hears w s.groups in
    all_from_yields_List test _ _ c.all.result c.all.ensures.ran (YieldsList-from_range 0 c.args.n c.args.n refl (omega arith)) (λ x b q k. search (rules, tests))
    ∙ (all_below test (dark_below s.hears s.groups) refl (λ n. refl) c.args.n)
