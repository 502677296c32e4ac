use Rattle.std.proofs.Common.{ℕ, Bool, not, is_some, refl, ap, ◌∙◌, arith, rules, tests}
use Rattle.std.proofs.lemmas.Iterator.{YieldsList-from_range}
use Rattle.std.proofs.lemmas.Iterator.Search.{all_from_yields_List}
use Rattle.reckoning.specs.Parts.{quiet}
use Rattle.book.proofs.Tables.{all_below}
use Rattle.book.proofs.told.quiet_on.Goals as goal

pub returns : goal.returns
returns g c =
    let s = g.P.Plant.state c.args.plant.now in
    let test : ℕ → Bool = λ b. not (is_some (s.hears c.args.w b)) in
    all_from_yields_List test _ _ c.all.result c.all.ensures.ran (YieldsList-from_range 0 c.groups.result c.groups.result refl (omega arith)) (λ x b q k. search (rules, tests))
    ∙ (all_below test (quiet s.hears c.args.w) refl (λ n. refl) c.groups.result ∙ ap (quiet s.hears c.args.w) c.groups.ensures)
