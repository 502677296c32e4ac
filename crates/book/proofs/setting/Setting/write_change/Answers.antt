-- Each turn darkens the next session and lights the one behind it.
use Rattle.std.proofs.Common.{◌≡◌, List, [], ◌∷◌, ◌++◌, reverse, length, refl, sym, ap, ◌∙◌, arith}
use mathlib.Core.List.{reverse-append}
use Rattle.std.proofs.lemmas.List.{length-reverse}
use Rattle.reckoning.specs.declared.session.Session.{Session}
use Rattle.reckoning.specs.declared.order.Order.{Order}
use Rattle.reckoning.specs.declared.order.Kind.TheVariants.{Light}
use Rattle.reckoning.specs.Sheets.{order, chain_orders}
use Rattle.sheet.specs.Pages.{page_of}
use Rattle.sheet.specs.Sheets.{with_record}
use Rattle.reckoning.proofs.Admissions.{chain_length}
use Rattle.book.specs.Standing.{parts_of}
use Rattle.book.proofs.Ordering.{started, turned, ended}
use Rattle.book.proofs.setting.Setting.write_change.Goals as goal

backwards : (xs ys : List Session) (x : Session) → xs ≡ ys ++ x ∷ [] → reverse xs ≡ x ∷ reverse ys
backwards xs ys x e = ap reverse e ∙ reverse-append ys (x ∷ [])

none_behind : (xs : List Session) → length xs ≡ 0 → reverse xs ≡ []
none_behind [] e = refl
none_behind (x ∷ xs) e = absurd (omega arith)

pub loop-next-init : goal.loop-next-init
loop-next-init c =
    let rest : c.into_iter-next-iterator.result.iter.rest.now ≡ c.in-Some.before.now = ap (λ r. r.iter.rest.now) c.into_iter-next-iterator.ensures.into_iter_gives ∙ (ap (λ r. r.rest.now) c.rev-next-items.ensures.source ∙ c.iter.ensures.rest) in
    started (parts_of c.args.self.now).group c.args.exchange.p c.args.exchange.q (page_of c.args.orders.now) c.args.chain.now c.in-Some.last.now (reverse c.into_iter-next-iterator.result.iter.rest.now)
    (backwards c.args.chain.now c.in-Some.before.now c.in-Some.last.now c.in-Some.ensures.cases.0 ∙ ap (λ (xs : List Session). c.in-Some.last.now ∷ reverse xs) (sym rest))
    c.requires (page_of c.clear.new.self) (page_of c.put.new.self) c.clear.ensures (c.put.ensures.page ∙ ap (λ (o : Order). with_record (page_of c.clear.new.self) o) c.order.ensures)

pub loop-next-preserved : goal.loop-next-preserved
loop-next-preserved c =
    let g = (parts_of c.args.self.now).group in
    let es = reverse c.args.chain.now in
    turned g c.args.exchange.p c.args.exchange.q (page_of c.args.orders.now) (chain_orders g c.args.exchange.p c.args.exchange.q es) (omega (arith, c.requires, chain_length g c.args.exchange.p c.args.exchange.q es, length-reverse c.args.chain.now)) (page_of c.loop-next.orders) c.loop-next.dark
    (reverse c.loop-next.next-iterator.iter.rest.now) c.in-Some-next.next.now (reverse c.next.new.self.iter.rest.now) c.loop-next.invariant (backwards c.loop-next.next-iterator.iter.rest.now c.next.new.self.iter.rest.now c.in-Some-next.next.now c.in-Some-next.ensures.steps)
    c.order-in-loop-next.result c.order-in-loop-next-2.result c.order-in-loop-next.ensures (c.order-in-loop-next-2.ensures ∙ ap (λ (s : Session). order g Light s) c.moved.ensures) (page_of c.put-in-loop-next.new.self) (page_of c.put-in-loop-next-2.new.self) c.put-in-loop-next.ensures.page c.put-in-loop-next-2.ensures.page

pub returns : goal.returns
returns c =
    let g = (parts_of c.args.self.now).group in
    let es = reverse c.args.chain.now in
    ended g c.args.exchange.p c.args.exchange.q (page_of c.args.orders.now) (chain_orders g c.args.exchange.p c.args.exchange.q es) (omega (arith, c.requires, chain_length g c.args.exchange.p c.args.exchange.q es, length-reverse c.args.chain.now)) (page_of c.loop-next.orders) c.loop-next.dark
    (reverse c.loop-next.next-iterator.iter.rest.now) c.loop-next.invariant (none_behind c.loop-next.next-iterator.iter.rest.now c.in-None.ensures.steps.0)
    c.order-2.result (c.order-2.ensures ∙ ap (λ (s : Session). order g Light s) c.moved-2.ensures) (page_of c.put-2.new.self) c.put-2.ensures.page
