-- No session stands, and no wavelength is lit.
use Rattle.std.proofs.Common.{List, reverse, sym, ap, ◌∙◌}
use Rattle.reckoning.specs.declared.session.Session.{Session}
use Rattle.reckoning.specs.Masks.{out_mask, into_mask}
use Rattle.reckoning.specs.Soundness.{sound_test}
use Rattle.book.specs.Standing.{parts_of}
use Rattle.book.proofs.Lit.{out_none, into_none}
use Rattle.book.proofs.book.Book.empty.Goals as goal

pub invariant_of-result : goal.invariant_of-result
unfolding sound_test
invariant_of-result c =
    let L = parts_of c.args.setting in
    record {
      sound = ap (λ (xs : List Session). sound_test L (reverse xs)) c.new.ensures;
      leaving = λ a l. c.default.ensures.at a 0 l ∙ sym (ap (λ (xs : List Session). out_mask L (reverse xs) a) c.new.ensures ∙ out_none L a);
      entering = λ b l. c.default-2.ensures.at b 0 l ∙ sym (ap (λ (xs : List Session). into_mask L (reverse xs) b) c.new.ensures ∙ into_none L b);
    }
