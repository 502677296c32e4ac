-- One call more is answered; at the end the law of runs holds.
use Rattle.std.proofs.Common.{get_or, vec_items, refl, ◌∙◌, arith}
use Rattle.std.proofs.lemmas.Result.{MatchResult-from_err}
use Rattle.reckoning.specs.declared.call.Call.TheVariants.{Admit}
use Rattle.sheet.specs.Pages.{page_of}
use Rattle.book.specs.Books.{parts_in}
use Rattle.controller.specs.Service.{moment}
use Rattle.controller.proofs.Listed.{none_served, one_more, as_told, same_on, all_served}
use Rattle.controller.proofs.Serving.{same_as}
use Rattle.controller.proofs.controller.Controller.serve_each.Goals as goal

pub loop-call-init : goal.loop-call-init
loop-call-init g c =
    let k = c.args.self.now in
    let made = c.in_ok-answers.ensures in
    record {
      same = same_as g.P.Plant k;
      counted = made.len;
      room = made.capacity;
      order_place = refl;
      row_place = refl;
      run = none_served (parts_in k.book) c.args.calls.now (moment g.P.Plant k (page_of c.args.orders.now) (page_of c.args.rows.now) c.args.walk.now) _ made.items;
    }

pub push_reserved-requires : goal.push_reserved-requires
push_reserved-requires g c = omega (arith, c.loop-call.invariant.counted, c.loop-call.invariant.room, c.loop-call-test.true)

pub loop-call-preserved : goal.loop-call-preserved
loop-call-preserved g c =
    let D = g.P.Plant in
    let k = c.args.self.now in
    let i = c.loop-call.call-index in
    let m = moment D k (page_of c.args.orders.now) (page_of c.args.rows.now) c.args.walk.now in
    let m' = moment D c.loop-call.self (page_of c.loop-call.orders) (page_of c.loop-call.rows) c.loop-call.walk in
    let m'' = moment D c.serve_one.new.self (page_of c.serve_one.new.orders) (page_of c.serve_one.new.rows) c.serve_one.new.walk in
    let same = c.loop-call.invariant.same in
    record {
      same = same_on D k c.loop-call.self c.serve_one.new.self same c.serve_one.ensures.same;
      counted = omega (arith, c.push_reserved.ensures.len, c.loop-call.invariant.counted);
      room = omega (arith, c.push_reserved.ensures.capacity, c.loop-call.invariant.room);
      order_place = c.serve_one.ensures.order_place ∙ c.loop-call.invariant.order_place;
      row_place = c.serve_one.ensures.row_place ∙ c.loop-call.invariant.row_place;
      run =
          one_more (parts_in k.book) c.args.calls.now m i (Admit 0 0 0 0) (vec_items c.loop-call.answers) (vec_items c.push_reserved.new.self) c.serve_one.result m' m'' c.loop-call-test.true c.push_reserved.ensures.items c.loop-call.invariant.run
          (as_told D k c.loop-call.self same (get_or c.args.calls.now i (Admit 0 0 0 0)) _ m' m'' c.serve_one.ensures.serves.answered);
    }

pub returns-in_err-answers : goal.returns-in_err-answers
returns-in_err-answers g c =
    record { order_place = refl; row_place = refl; same = same_as g.P.Plant c.args.self.now; served = MatchResult-from_err c.from_residual.result _ _ c.from_residual.ensures.0 (λ _. refl) }

pub returns : goal.returns
returns g c =
    let k = c.args.self.now in
    let law = g.met.L.Layout in
    record {
      order_place = c.loop-call.invariant.order_place;
      row_place = c.loop-call.invariant.row_place;
      same = c.loop-call.invariant.same;
      served = all_served g.L.Layout k (law.grouped k.layout) (law.separate k.layout) (law.meeting k.layout) c.args.calls.now _ c.loop-call.call-index _ _ c.loop-call-test.false c.loop-call.invariant.run;
    }
