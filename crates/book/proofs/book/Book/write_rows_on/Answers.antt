-- One group more: its session on the wavelength is written, if there is one.
use Rattle.std.proofs.Common.{◌≡◌, ℕ, Option, sym, ap, ◌∙◌, arith}
use Rattle.reckoning.specs.declared.session.Session.{Session}
use Rattle.reckoning.specs.Lists.{first}
use Rattle.reckoning.specs.Standing.{leaves}
use Rattle.sheet.specs.Pages.{page_of}
use Rattle.book.specs.Books.{parts_in, standing_in}
use Rattle.book.proofs.Listing.{as_it_is, behind, none_more, one_more}
use Rattle.book.proofs.book.Book.write_rows_on.Goals as goal
use Rattle.book.proofs.book.Book.write_rows_on.Goals.{in-Some, in_default}

pub loop-a-init : goal.loop-a-init
loop-a-init c = as_it_is (page_of c.args.rows.now) (omega (arith, c.requires))

pub loop-a-preserved : goal.loop-a-preserved
loop-a-preserved c =
    let b = c.args.self.now in
    let at : ℕ → Option Session = λ a. first (leaves (parts_in b).group c.args.w a) (standing_in b) in
    let s = (page_of c.args.rows.now) in
    let a = c.loop-a.a in
    elim c.match-look_up.branch [
      | in-Some w ↦ ap page_of w.rows-is ∙ one_more at s b.setting.span c.requires a c.loop-a-test.true w.in-Some.s (sym w.in-Some.ensures) (page_of c.loop-a.rows) (page_of w.put.new.self) c.loop-a.invariant w.put.ensures.page
      | in_default w ↦ ap page_of w.rows-is ∙ (c.loop-a.invariant ∙ none_more at s a (sym w.in_default.ensures))
    ]

pub returns : goal.returns
returns c =
    let at : ℕ → Option Session = λ a. first (leaves (parts_in c.args.self.now).group c.args.w a) (standing_in c.args.self.now) in
    let e : c.loop-a.a ≡ c.args.self.now.setting.span = omega arith in
    c.loop-a.invariant ∙ ap (behind at (page_of c.args.rows.now)) e
