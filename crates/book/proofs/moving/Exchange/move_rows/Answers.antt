-- One row more is written over, where it is one of the chain.
use Rattle.std.proofs.Common.{◌≡◌, ◌+◌, ◌<◌, Bool, ◌++◌, cond, map, length, get_or, take, drop, set, sym, ap, ◌∙◌, arith}
use Rattle.std.proofs.lemmas.List.Edits.{map_over_more}
use Rattle.std.proofs.lemmas.List.{get_or_default}
use Rattle.reckoning.specs.declared.session.Session.{Session}
use Rattle.reckoning.specs.Plans.{moved}
use Rattle.book.specs.Moves.{shift, nobody}
use Rattle.book.proofs.moving.Exchange.move_rows.Goals as goal
use Rattle.book.proofs.moving.Exchange.move_rows.Goals.{then-among, else-among}

pub loop-row-preserved : goal.loop-row-preserved
loop-row-preserved c =
    let f = shift c.args.chain.now c.args.self.p c.args.self.q in
    let rows = c.loop-row.row-items in
    let i = c.loop-row.row-index in
    let h : i < length rows = omega arith in
    let x = get_or rows i nobody in
    let pick : Bool → Session = λ b. cond b (moved c.args.self.p c.args.self.q x) x in
    let more : set rows i (f x) ≡ map f (take (i + 1) c.args.rows.now) ++ drop (i + 1) c.args.rows.now = map_over_more f c.args.rows.now rows i x (omega arith) c.loop-row.invariant (get_or_default rows i nobody x h) in
    elim c.if-among.branch [
      | then-among w ↦ w.row-items-is ∙ (ap (set rows i) (w.moved.ensures ∙ ap pick (sym w.if-among.true ∙ c.among.ensures)) ∙ more)
      | else-among w ↦ w.row-items-is ∙ (ap (set rows i) (ap pick (sym w.if-among.false ∙ c.among.ensures)) ∙ more)
    ]
