-- The sheets are ample, and a new controller answers.
use Rattle.std.proofs.Common.{length, refl, ap}
use Rattle.std.proofs.lemmas.Result.{IfOk-weaker}
use Rattle.reckoning.specs.declared.order.Order.{Order}
use Rattle.reckoning.specs.declared.session.Session.{Session}
use Rattle.sheet.specs.Sheets.{Page}
use Rattle.text.proofs.Starting.{new_bytes_lem, new_run}
use Rattle.text.proofs.star.serve_new.Goals as goal

pub returns : goal.returns
returns g c =
    let seven = ap (λ (p : Page Order). length p.places) c.new-orders.ensures in
    let eight = ap (λ (p : Page Session). length p.places) c.new-rows.ensures in
    record {
      bytes = IfOk-weaker c.serve_text.result _ _ (λ s p. new_bytes_lem g.L.Layout g.P.Plant c.args.layout c.args.plant _ c.new-controller.ensures _ _ _ _ seven eight refl c.args.text.now _ p) c.serve_text.ensures.served;
      law = IfOk-weaker c.serve_text.result _ _ (λ s p. new_run g.L.Layout g.P.Plant c.args.layout c.args.plant _ c.new-controller.ensures _ _ _ _ seven eight refl c.args.text.now _ p) c.serve_text.ensures.served;
    }
