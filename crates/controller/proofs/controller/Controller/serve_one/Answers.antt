-- Each call in turn.
use Rattle.sheet.specs.Pages.{page_of}
use Rattle.book.proofs.Asking.{handed_err}
use Rattle.controller.proofs.Serving.{as_call, as_refused}
use Rattle.controller.proofs.controller.Controller.serve_one.Goals as goal

pub returns-in_err-wavelength-in-Admit-clause-serves : goal.returns-in_err-wavelength-in-Admit-clause-serves
returns-in_err-wavelength-in-Admit-clause-serves g c =
    let e = c.in_err-wavelength-in-Admit.field-0.0 in
    as_refused g.L.Layout c.args.self.now c.args.call _ e c.from_residual.result _ _ (handed_err c.from_residual.result e c.from_residual.ensures.1) c.in-Admit.is (c.in_err-wavelength-in-Admit.ensures.serves (page_of c.args.rows.now))

pub returns-in_ok-wavelength-in-Admit-clause-serves : goal.returns-in_ok-wavelength-in-Admit-clause-serves
returns-in_ok-wavelength-in-Admit-clause-serves g c = as_call g.L.Layout c.args.self.now c.args.call _ _ _ _ c.in-Admit.is (c.in_ok-wavelength-in-Admit.ensures.serves (page_of c.args.rows.now))

pub returns-in_err-wavelength-in-Release-clause-serves : goal.returns-in_err-wavelength-in-Release-clause-serves
returns-in_err-wavelength-in-Release-clause-serves g c =
    let e = c.in_err-wavelength-in-Release.field-0.0 in
    as_refused g.L.Layout c.args.self.now c.args.call _ e c.from_residual-in_err-wavelength-in-Release.result _ _ (handed_err c.from_residual-in_err-wavelength-in-Release.result e c.from_residual-in_err-wavelength-in-Release.ensures.1) c.in-Release.is (c.in_err-wavelength-in-Release.ensures.serves (page_of c.args.rows.now) c.args.walk.now)

pub returns-in_ok-wavelength-in-Release-clause-serves : goal.returns-in_ok-wavelength-in-Release-clause-serves
returns-in_ok-wavelength-in-Release-clause-serves g c = as_call g.L.Layout c.args.self.now c.args.call _ _ _ _ c.in-Release.is (c.in_ok-wavelength-in-Release.ensures.serves (page_of c.args.rows.now) c.args.walk.now)

pub returns-in_err-wavelength-in-Quote-clause-serves : goal.returns-in_err-wavelength-in-Quote-clause-serves
returns-in_err-wavelength-in-Quote-clause-serves g c =
    let e = c.in_err-wavelength-in-Quote.field-0.0 in
    as_refused g.L.Layout c.args.self.now c.args.call _ e c.from_residual-in_err-wavelength-in-Quote.result _ _ (handed_err c.from_residual-in_err-wavelength-in-Quote.result e c.from_residual-in_err-wavelength-in-Quote.ensures.1) c.in-Quote.is (c.in_err-wavelength-in-Quote.ensures (page_of c.args.orders.now) (page_of c.args.rows.now))

pub returns-in_ok-wavelength-in-Quote-clause-serves : goal.returns-in_ok-wavelength-in-Quote-clause-serves
returns-in_ok-wavelength-in-Quote-clause-serves g c = as_call g.L.Layout c.args.self.now c.args.call _ _ _ _ c.in-Quote.is (c.in_ok-wavelength-in-Quote.ensures (page_of c.args.orders.now) (page_of c.args.rows.now))

pub returns-in_err-s-in-Where-clause-serves : goal.returns-in_err-s-in-Where-clause-serves
returns-in_err-s-in-Where-clause-serves g c =
    let e = c.in_err-s-in-Where.field-0.0 in
    as_refused g.L.Layout c.args.self.now c.args.call _ e c.from_residual-in_err-s-in-Where.result _ _ (handed_err c.from_residual-in_err-s-in-Where.result e c.from_residual-in_err-s-in-Where.ensures.1) c.in-Where.is (c.in_err-s-in-Where.ensures.serves (page_of c.args.orders.now) (page_of c.args.rows.now) c.args.walk.now)

pub returns-in_ok-s-in-Where-clause-serves : goal.returns-in_ok-s-in-Where-clause-serves
returns-in_ok-s-in-Where-clause-serves g c = as_call g.L.Layout c.args.self.now c.args.call _ _ _ _ c.in-Where.is (c.in_ok-s-in-Where.ensures.serves (page_of c.args.orders.now) (page_of c.args.rows.now) c.args.walk.now)

pub returns-in_err-rows-in-List-clause-serves : goal.returns-in_err-rows-in-List-clause-serves
returns-in_err-rows-in-List-clause-serves g c =
    let e = c.in_err-rows-in-List.field-0.0 in
    as_refused g.L.Layout c.args.self.now c.args.call _ e c.from_residual-in_err-rows-in-List.result _ _ (handed_err c.from_residual-in_err-rows-in-List.result e c.from_residual-in_err-rows-in-List.ensures.1) c.in-List.is (c.in_err-rows-in-List.ensures.serves (page_of c.args.orders.now) c.args.walk.now)

pub returns-in_ok-rows-in-List-clause-serves : goal.returns-in_ok-rows-in-List-clause-serves
returns-in_ok-rows-in-List-clause-serves g c = as_call g.L.Layout c.args.self.now c.args.call _ _ _ _ c.in-List.is (c.in_ok-rows-in-List.ensures.serves (page_of c.args.orders.now) c.args.walk.now)
