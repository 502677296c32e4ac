-- The rows are those that do not bear the number; the masks are made anew.
use Rattle.std.proofs.Common.{List, Bool, not, reverse, sym, refl, ap, ◌∙◌, rules, tests}
use Rattle.arrayvec.proofs.ArrayVecLemmas.{filter-from_retain}
use Rattle.reckoning.specs.declared.session.Session.{Session}
use Rattle.reckoning.specs.Masks.{out_mask, into_mask}
use Rattle.reckoning.specs.Soundness.{sound_test}
use Rattle.reckoning.specs.Standing.{bears}
use Rattle.reckoning.proofs.Releases.{sound_without}
use Rattle.reckoning.proofs.Soundness.{sound_from, sound_to}
use Rattle.book.specs.Books.{parts_in, standing_in}
use Rattle.book.proofs.Rows.{filter_reverse}
use Rattle.book.proofs.book.Book.leave.Goals as goal

pub invariant_of-self : goal.invariant_of-self
invariant_of-self c =
    let b = c.args.self.now in
    let L = parts_in b in
    let test : Session → Bool = λ s. not (bears c.args.number s) in
    let e = ap reverse (filter-from_retain _ test _ (λ x b f' y k. search (rules, tests)) b.rows.items c.retain.new.self.items c.retain.ensures.filtered) ∙ sym (filter_reverse test b.rows.items) in
    let k = sound_to L _ (sound_without L (standing_in b) c.args.number (sound_from L (standing_in b) b.sound)) in
    record {
      sound = ap (sound_test L) e ∙ k;
      leaving = λ a l. c.masks.ensures.leaving a l ∙ ap (λ (xs : List Session). out_mask L (reverse xs) a) c.deref.ensures.0;
      entering = λ a l. c.masks.ensures.entering a l ∙ ap (λ (xs : List Session). into_mask L (reverse xs) a) c.deref.ensures.0;
    }

pub returns : goal.returns
returns c =
    let b = c.args.self.now in
    let test : Session → Bool = λ s. not (bears c.args.number s) in
    record {
      setting = refl;
      stands = ap reverse (filter-from_retain _ test _ (λ x b f' y k. search (rules, tests)) b.rows.items c.retain.new.self.items c.retain.ensures.filtered) ∙ sym (filter_reverse test b.rows.items);
    }
