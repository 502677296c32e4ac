use Rattle.std.proofs.Common.{◌≡◌, ℕ, true, false, sym, ◌∙◌, rules}
use borrow.Author.Tests.{tests}
use Rattle.std.proofs.lemmas.Iterator.{first_from_Range}
use Rattle.plant.specs.Mirrors.{mirror}
use Rattle.plant.specs.Switch.{is_from}
use Rattle.plant.proofs.First.{first_found}
use Rattle.plant.proofs.Turning.{heard_in}
use Rattle.plant.proofs.hub.MirrorHubMake.source_at.Goals as goal

pub returns : goal.returns
returns c =
    let h = c.args.self.now in
    first_found _ _ _
    (first_from_Range _ _ _ _ (λ (a : ℕ). is_from (mirror h.mirrors c.args.w a) c.args.b ≡ true) (λ (a : ℕ). is_from (mirror h.mirrors c.args.w a) c.args.b ≡ false) c.find.ensures.ran (λ x q k. search (rules, tests)) (λ x q k. search (rules, tests)))
    ∙ sym (heard_in _ _ _ h.sound _ c.if-w-self.false _ c.if-b-self.false)
