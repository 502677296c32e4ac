-- One row more is marked at both of its groups.
use Rattle.std.proofs.Common.{ℕ, ◌<◌, List, reverse, length, take, get_or, sym, ap, ◌∙◌, arith}
use Rattle.std.proofs.lemmas.List.{take_all}
use Rattle.reckoning.specs.declared.session.Session.{Session}
use Rattle.reckoning.specs.Masks.{out_mask, into_mask}
use Rattle.book.specs.Standing.{parts_of}
use Rattle.book.specs.Moves.{marked, nobody}
use Rattle.book.proofs.Lit.{out_more, into_more, out_none, into_none}
use Rattle.book.proofs.Rows.{newer}
use Rattle.book.proofs.setting.Setting.masks.Goals as goal

pub loop-s-init : goal.loop-s-init
loop-s-init c =
    let L = parts_of c.args.self.now in
    (λ a l. c.default-outward.ensures.at a 0 l ∙ sym (out_none L a), λ b l. c.default-inward.ensures.at b 0 l ∙ sym (into_none L b))

pub loop-s-preserved : goal.loop-s-preserved
loop-s-preserved c =
    let L = parts_of c.args.self.now in
    let i = c.loop-s.s-index in
    let rows = c.args.rows.now in
    let s = get_or rows i nobody in
    let h : i < length rows = omega arith in (
      λ a l.
          c.light.ensures a l
          ∙ (ap (λ (x : ℕ). marked x s.wavelength a (get_or c.loop-s.outward.lit a 0)) c.group_of.ensures
          ∙ (ap (marked (L.group s.source) s.wavelength a) (c.loop-s.invariant.0 a l)
          ∙ (sym (out_more L s (reverse (take i rows)) a) ∙ ap (λ (t : List Session). out_mask L t a) (sym (newer rows i nobody h))))),
      λ b l.
          c.light-in-loop-s.ensures b l
          ∙ (ap (λ (x : ℕ). marked x s.wavelength b (get_or c.loop-s.inward.lit b 0)) c.group_of-in-loop-s.ensures
          ∙ (ap (marked (L.group s.destination) s.wavelength b) (c.loop-s.invariant.1 b l)
          ∙ (sym (into_more L s (reverse (take i rows)) b) ∙ ap (λ (t : List Session). into_mask L t b) (sym (newer rows i nobody h))))),
    )

pub returns : goal.returns
returns c =
    let L = parts_of c.args.self.now in
    let all = take_all c.loop-s.s-index c.args.rows.now (omega arith) in
    record {
      leaving = λ a l. c.loop-s.invariant.0 a l ∙ ap (λ (t : List Session). out_mask L (reverse t) a) all;
      entering = λ b l. c.loop-s.invariant.1 b l ∙ ap (λ (t : List Session). into_mask L (reverse t) b) all;
    }
