use Rattle.std.proofs.Common.{◌≡◌, ℕ, true, false, ap, ◌∙◌, arith, rules}
use borrow.Author.Tests.{tests}
use Rattle.std.proofs.lemmas.Iterator.{first_from_Range}
use Rattle.plant.specs.Registers.{fabric_switch}
use Rattle.plant.specs.Switch.{first, is_from}
use Rattle.plant.proofs.Answers.{steered_at}
use Rattle.plant.proofs.First.{first_found}
use Rattle.plant.proofs.fabric.RegisterFabricMake.target_of.Goals as goal

pub returns : goal.returns
returns c =
    let f = c.args.self.now in
    let t = fabric_switch f.waves f.groups f.registers.now in
    let told = c.counts-counts.ensures in
    first_found (λ b. is_from (t.hears c.args.w b) c.args.a) _ _
    (first_from_Range _ _ _ _ (λ (b : ℕ). is_from (t.hears c.args.w b) c.args.a ≡ true) (λ (b : ℕ). is_from (t.hears c.args.w b) c.args.a ≡ false) c.find.ensures.ran (λ x q k. search (rules, tests)) (λ x q k. search (rules, tests)))
    ∙ ap (first (λ b. is_from (t.hears c.args.w b) c.args.a)) told.groups
    ∙ steered_at t _ _ (omega (arith, told.waves)) (omega (arith, told.groups))
