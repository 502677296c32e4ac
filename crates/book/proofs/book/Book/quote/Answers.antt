-- The questions come first, then the choice.
use Rattle.std.proofs.Common.{◌≡◌, ℕ, Result, sym, ap, ◌∙◌, subst, ap₂, arith}
use Rattle.reckoning.specs.Calls.{Reply, quoted, quote}
use Rattle.reckoning.proofs.Soundness.{sound_from}
use Rattle.book.specs.declared.refusal.CallRefusal.{CallRefusal}
use Rattle.book.specs.Books.{parts_in, standing_in}
use Rattle.book.specs.Calls.{quote_answer}
use Rattle.book.proofs.Asking.{handed_err}
use Rattle.book.proofs.Preparing.{opening_at, at_groups}
use Rattle.book.proofs.Quoting.{quote_fitting, quote_refused, quote_accepted, quote_few}
use Rattle.book.proofs.book.Book.quote.Goals as goal

pub returns-in_err-ask_quote : goal.returns-in_err-ask_quote
returns-in_err-ask_quote c =
    let b = c.args.self.now in
    let L = parts_in b in
    let ss = standing_in b in
    let x = c.in_err-ask_quote.field-0.0 in
    let y = quote_refused L ss c.args.walk.now c.args.demand.number c.args.demand.source c.args.demand.destination x c.in_err-ask_quote.ensures in
    record {
      answer = subst (λ (r : Result (ℕ × ℕ) CallRefusal). quote_answer r ≡ (quote L ss c.args.walk.now c.args.demand.number c.args.demand.source c.args.demand.destination).answer) (handed_err c.from_residual.result x c.from_residual.ensures.1) (sym (ap (λ (z : Reply). z.answer) y));
      walk = sym (ap (λ (z : Reply). z.walk) y);
    }

pub overflow_cast-demand : goal.overflow_cast-demand
overflow_cast-demand c =
    let b = c.args.self.now in
    let d = c.args.demand in
    omega (arith, (quote_fitting (parts_in b) (standing_in b) c.args.walk.now d.number d.source d.destination (sym c.in_ok-ask_quote.ensures)).source, b.setting.small)

pub overflow_cast-demand-2 : goal.overflow_cast-demand-2
overflow_cast-demand-2 c =
    let b = c.args.self.now in
    let d = c.args.demand in
    omega (arith, (quote_fitting (parts_in b) (standing_in b) c.args.walk.now d.number d.source d.destination (sym c.in_ok-ask_quote.ensures)).destination, b.setting.small)

pub choose-course-requires : goal.choose-course-requires
choose-course-requires c =
    let b = c.args.self.now in
    let d = c.args.demand in
    opening_at (parts_in b) (standing_in b) c.args.walk.now d.source d.destination (quote_fitting (parts_in b) (standing_in b) c.args.walk.now d.number d.source d.destination (sym c.in_ok-ask_quote.ensures))
    b.setting.grouped c.group_of-a.result c.group_of-b.result c.group_of-a.ensures c.group_of-b.ensures

pub overflow_cast-result : goal.overflow_cast-result
overflow_cast-result c =
    let b = c.args.self.now in
    let L = parts_in b in
    let ss = standing_in b in
    let h = at_groups L ss c.args.demand.source c.args.demand.destination c.group_of-a.result c.group_of-b.result c.args.walk.now c.choose-course.new.walk c.choose-course.result c.group_of-a.ensures c.group_of-b.ensures c.choose-course.ensures in
    omega (arith, h.moves, quote_few L ss c.args.walk.now c.args.demand.number c.args.demand.source c.args.demand.destination (sym c.in_ok-ask_quote.ensures) b.setting.grouped (sound_from L ss b.sound), b.setting.small)

pub returns : goal.returns
returns c =
    let b = c.args.self.now in
    let L = parts_in b in
    let ss = standing_in b in
    let h = at_groups L ss c.args.demand.source c.args.demand.destination c.group_of-a.result c.group_of-b.result c.args.walk.now c.choose-course.new.walk c.choose-course.result c.group_of-a.ensures c.group_of-b.ensures c.choose-course.ensures in
    let y = quote_accepted L ss c.args.walk.now c.args.demand.number c.args.demand.source c.args.demand.destination (sym c.in_ok-ask_quote.ensures) in
    record {
      answer = ap₂ quoted h.gives h.moves ∙ sym (ap (λ (z : Reply). z.answer) y);
      walk = h.walk ∙ sym (ap (λ (z : Reply). z.walk) y);
    }
