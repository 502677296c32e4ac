use Rattle.std.proofs.Common.{◌≡◌, ◌≤◌, map, length, take, vec_items, vec_len, vec_capacity}
use Rattle.reckoning.specs.Runs.{Run, Answered}
use Rattle.sheet.specs.Pages.{page_of}
use Rattle.book.specs.Books.{parts_in}
use Rattle.controller.specs.Service.{Same, answer_of, moment}
use Rattle.controller.proofs.controller.Controller.serve_each.Given as goal

abbrev pub invariant-loop-call : goal.invariant-loop-call
invariant-loop-call g l =
    let D = g.P.Plant in
    let start = l.initial in
    record {
      same : Same D start.self l.self;
      counted : vec_len l.answers ≡ l.call-index;
      room : length l.calls ≤ vec_capacity l.answers;
      order_place : (page_of l.orders).memory ≡ (page_of start.orders).memory;
      row_place : (page_of l.rows).memory ≡ (page_of start.rows).memory;
      run : Run (Answered (parts_in start.self.book)) (take l.call-index l.calls) (map answer_of (vec_items l.answers)) (moment D start.self (page_of start.orders) (page_of start.rows) start.walk) (moment D l.self (page_of l.orders) (page_of l.rows) l.walk);
    }
