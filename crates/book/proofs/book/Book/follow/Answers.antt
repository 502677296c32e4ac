-- One turn writes the code of one session more; the chain ends where none follows, or where its most are written.
use Rattle.std.proofs.Common.{ℕ, ◌-◌, ◌*◌, List, ◌++◌, take, drop, Option, ap, ◌∙◌, subst, arith}
use Rattle.std.proofs.lemmas.List.{length-map, length-take-le, nil_from_length, set-get_or}
use Rattle.reckoning.specs.declared.session.Session.{Session}
use Rattle.reckoning.specs.Lists.{chain}
use Rattle.reckoning.specs.Plans.{next}
use Rattle.reckoning.specs.Sheets.{code, codes}
use Rattle.book.specs.Books.{parts_in, standing_in}
use Rattle.book.specs.Walks.{chained}
use Rattle.book.proofs.Walking.{Walking, walking_none, walking_more, walking_all, chain_over, chain_few, laid_part}
use Rattle.book.proofs.book.Book.follow.Goals as goal

pub loop-i-init : goal.loop-i-init
unfolding chained
loop-i-init c =
    let b = c.args.self.now in
    walking_none _ _ _ _ _ (omega (arith, c.requires, c.min-most.ensures, length-take-le c.min-most.result c.args.walk.now (omega (arith, c.min-most.ensures)), chain_few (next (parts_in b).group (standing_in b) c.args.exchange.p c.args.exchange.q) (2 * b.setting.span) c.args.start))

pub loop-i-preserved : goal.loop-i-preserved
unfolding chained
loop-i-preserved c =
    let b = c.args.self.now in
    let f = next (parts_in b).group (standing_in b) c.args.exchange.p c.args.exchange.q in
    let old = take c.min-most.result c.args.walk.now in
    let w = subst (λ (o : Option Session). Walking (parts_in b).group f (2 * b.setting.span) c.args.start old c.loop-i.place-items c.loop-i.i o) c.in-Some.is c.loop-i.invariant in
    let l = length-take-le c.min-most.result c.args.walk.now (omega (arith, c.min-most.ensures)) in
    walking_more _ _ _ _ _ (omega (arith, c.requires, c.min-most.ensures, l, chain_few f (2 * b.setting.span) c.args.start)) _ _ _ w (omega (arith, c.min-most.ensures, c.loop-i-test.true, c.loop-i.auto, l)) _ c.code.ensures _ c.follower-next.ensures

pub returns-in_default : goal.returns-in_default
unfolding chained
returns-in_default c =
    let b = c.args.self.now in
    let f = next (parts_in b).group (standing_in b) c.args.exchange.p c.args.exchange.q in
    let l = length-take-le c.min-most.result c.args.walk.now (omega (arith, c.min-most.ensures)) in
    let few = chain_few f (2 * b.setting.span) c.args.start in
    let h = walking_all _ _ _ _ _ (omega (arith, c.requires, c.min-most.ensures, l, few)) _ _ _ c.loop-i.invariant (chain_over _ _ _ c.in_default.is) in
    let xs = codes (parts_in b).group (chain f (2 * b.setting.span) c.args.start) in
    record {
      count = h.0;
      written =
          ap (λ (t : List ℕ). t ++ drop c.min-most.result c.args.walk.now) (set-get_or c.loop-i.place-items c.loop-i.i 0 ∙ h.1)
          ∙ laid_part xs c.args.walk.now c.min-most.result (omega (arith, c.min-most.ensures)) (omega (arith, c.requires, c.min-most.ensures, few, length-map (chain f (2 * b.setting.span) c.args.start) (code (parts_in b).group)));
    }

pub returns : goal.returns
unfolding chained
returns c =
    let b = c.args.self.now in
    let f = next (parts_in b).group (standing_in b) c.args.exchange.p c.args.exchange.q in
    let l = length-take-le c.min-most.result c.args.walk.now (omega (arith, c.min-most.ensures)) in
    let few = chain_few f (2 * b.setting.span) c.args.start in
    let w = c.loop-i.invariant in
    let h = walking_all _ _ _ _ _ (omega (arith, c.requires, c.min-most.ensures, l, few)) _ _ _ w (nil_from_length _ (omega (arith, c.min-most.ensures, c.requires, w.count, few, chain_few f (2 * b.setting.span - c.loop-i.i) c.loop-i.next))) in
    let xs = codes (parts_in b).group (chain f (2 * b.setting.span) c.args.start) in
    record {
      count = omega (arith, h.0);
      written =
          ap (λ (t : List ℕ). t ++ drop c.min-most.result c.args.walk.now) h.1
          ∙ laid_part xs c.args.walk.now c.min-most.result (omega (arith, c.min-most.ensures)) (omega (arith, c.requires, c.min-most.ensures, few, length-map (chain f (2 * b.setting.span) c.args.start) (code (parts_in b).group)));
    }
