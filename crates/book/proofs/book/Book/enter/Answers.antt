-- The rows are those after the move with the new one behind them; the masks are made anew.
use Rattle.std.proofs.Common.{◌≡◌, List, ◌∷◌, [], ◌++◌, map, reverse, refl, ap, ◌∙◌}
use Rattle.reckoning.specs.declared.session.Session.{Session}
use Rattle.reckoning.specs.Masks.{out_mask, into_mask}
use Rattle.reckoning.specs.Soundness.{sound_test}
use Rattle.book.specs.Standing.{parts_of}
use Rattle.book.specs.Moves.{shift}
use Rattle.book.proofs.Rows.{all_moved, entered}
use Rattle.book.proofs.book.Book.enter.Goals as goal

pub invariant_of-self : goal.invariant_of-self
invariant_of-self c =
    let b = c.args.self.now in
    let f = shift c.args.chain.now c.args.exchange.p c.args.exchange.q in
    let e : c.push.new.self.items ≡ map f b.rows.items ++ (c.args.s ∷ []) = c.push.ensures.items ∙ ap (λ (xs : List Session). xs ++ (c.args.s ∷ [])) (all_moved f b.rows.items c.move_rows.new.rows (c.move_rows.ensures ∙ ap (map f) c.deref_mut.ensures.value)) in
    let L = parts_of b.setting in
    record {
      sound = ap (sound_test L) (entered f b.rows.items c.push.new.self.items c.args.s e) ∙ c.requires.sound;
      leaving = λ a l. c.masks.ensures.leaving a l ∙ ap (λ (xs : List Session). out_mask L (reverse xs) a) c.deref.ensures.0;
      entering = λ a l. c.masks.ensures.entering a l ∙ ap (λ (xs : List Session). into_mask L (reverse xs) a) c.deref.ensures.0;
    }

pub returns : goal.returns
returns c =
    let b = c.args.self.now in
    let f = shift c.args.chain.now c.args.exchange.p c.args.exchange.q in
    let e : c.push.new.self.items ≡ map f b.rows.items ++ (c.args.s ∷ []) = c.push.ensures.items ∙ ap (λ (xs : List Session). xs ++ (c.args.s ∷ [])) (all_moved f b.rows.items c.move_rows.new.rows (c.move_rows.ensures ∙ ap (map f) c.deref_mut.ensures.value)) in
    record { setting = refl; stands = entered f b.rows.items c.push.new.self.items c.args.s e }
