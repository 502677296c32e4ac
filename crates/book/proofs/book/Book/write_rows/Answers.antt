-- One wavelength more is written behind the others.
use Rattle.std.proofs.Common.{◌≡◌, ℕ, List, length, Some, sym, ap, ◌∙◌, arith}
use Rattle.std.specs.List.{range_with_len}
use Rattle.reckoning.specs.declared.session.Session.{Session}
use Rattle.reckoning.specs.Lists.{flat}
use Rattle.sheet.specs.Pages.{page_of}
use Rattle.sheet.specs.Sheets.{rewritten}
use Rattle.book.specs.Books.{parts_in, standing_in}
use Rattle.book.specs.Calls.{rows_on}
use Rattle.book.proofs.Listing.{flat_more, flat_room, page_more, page_long}
use Rattle.book.proofs.book.Book.write_rows.Goals as goal

pub write_rows_on-requires : goal.write_rows_on-requires
write_rows_on-requires c =
    let b = c.args.self.now in
    let on = rows_on (parts_in b) (standing_in b) in
    let room = flat_room on c.loop-w.w b.setting.waves (length (page_of c.args.rows.now).places) c.loop-w-test.true c.requires in
    omega (arith, room, page_long (flat on (range_with_len 0 c.loop-w.w)) (page_of c.args.rows.now) (page_of c.loop-w.rows) c.loop-w.invariant (omega (arith, room)))

pub loop-w-preserved : goal.loop-w-preserved
loop-w-preserved c =
    let b = c.args.self.now in
    let on = rows_on (parts_in b) (standing_in b) in
    page_more (flat on (range_with_len 0 c.loop-w.w)) (on c.loop-w.w) (page_of c.args.rows.now) (page_of c.loop-w.rows) (page_of c.write_rows_on.new.rows) c.loop-w.invariant c.write_rows_on.ensures
    ∙ ap (λ (xs : List Session). rewritten (Some xs) (page_of c.args.rows.now)) (sym (flat_more on c.loop-w.w))

pub returns : goal.returns
returns c =
    let b = c.args.self.now in
    let on = rows_on (parts_in b) (standing_in b) in
    let e : c.loop-w.w ≡ b.setting.waves = omega arith in
    c.loop-w.invariant ∙ ap (λ (n : ℕ). rewritten (Some (flat on (range_with_len 0 n))) (page_of c.args.rows.now)) e
