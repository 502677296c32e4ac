use Rattle.std.proofs.Common.{ℕ, Bor, List, Option, refl, ap, ◌∙◌}
use Rattle.request.specs.Words.{just_words, pieces_left}
use Rattle.request.proofs.Splitting.{step, more_words, five_err, at_break}
use Rattle.request.proofs.words.split_words.Goals as goal

pub returns-in_err-act : goal.returns-in_err-act
returns-in_err-act c =
    let b = c.in_err-act.ensures in
    at_break _ _ _ _ c.from_residual.ensures.1 (five_err c.args.line.now b.0 (b.1 4))

pub returns-in_err-session : goal.returns-in_err-session
returns-in_err-session c =
    let b = c.in_err-session.ensures in
    at_break _ _ _ _ c.from_residual-in_err-session.ensures.1
    (five_err c.args.line.now b.0 (step 4 c.in_ok-act.ensures ∙ b.1 3))

pub returns-in_err-from : goal.returns-in_err-from
returns-in_err-from c =
    let b = c.in_err-from.ensures in
    at_break _ _ _ _ c.from_residual-in_err-from.ensures.1
    (five_err c.args.line.now b.0 (step 4 c.in_ok-act.ensures ∙ step 3 c.in_ok-session.ensures ∙ b.1 2))

pub returns-in_err-to : goal.returns-in_err-to
returns-in_err-to c =
    let b = c.in_err-to.ensures in
    at_break _ _ _ _ c.from_residual-in_err-to.ensures.1
    (five_err c.args.line.now b.0 (step 4 c.in_ok-act.ensures ∙ step 3 c.in_ok-session.ensures ∙ step 2 c.in_ok-from.ensures ∙ b.1 1))

pub returns-in_err-limit : goal.returns-in_err-limit
returns-in_err-limit c =
    let b = c.in_err-limit.ensures in
    at_break _ _ _ _ c.from_residual-in_err-limit.ensures.1
    (five_err c.args.line.now b.0 (step 4 c.in_ok-act.ensures ∙ step 3 c.in_ok-session.ensures ∙ step 2 c.in_ok-from.ensures ∙ step 1 c.in_ok-to.ensures ∙ b.1 0))

pub returns-in-Some : goal.returns-in-Some
returns-in-Some c =
    five_err c.args.line.now refl
    (step 4 c.in_ok-act.ensures ∙ step 3 c.in_ok-session.ensures ∙ step 2 c.in_ok-from.ensures ∙ step 1 c.in_ok-to.ensures ∙ step 0 c.in_ok-limit.ensures
    ∙ ap (λ (left : Option (Bor (List ℕ))). just_words 0 (pieces_left left)) c.in-Some.is ∙ more_words c.in-Some.field-0.now)
