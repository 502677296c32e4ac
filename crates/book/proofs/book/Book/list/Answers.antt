-- The rows are written where there is room for all.
use Rattle.std.proofs.Common.{◌≡◌, ℕ, ◌≤◌, cond, leb, length, Result, sym, refl, ap, ◌∙◌, subst, ap₂, arith}
use Rattle.reckoning.specs.Calls.{Reply, listed, list}
use Rattle.reckoning.specs.Questions.{Room}
use Rattle.sheet.specs.Pages.{page_of}
use Rattle.reckoning.specs.declared.session.Session.{Session}
use Rattle.sheet.specs.Sheets.{Page, rewritten}
use Rattle.reckoning.specs.Sheets.{rows_of}
use Rattle.reckoning.proofs.Rows.{rows_length}
use Rattle.reckoning.proofs.Soundness.{sound_from}
use Rattle.book.specs.declared.refusal.CallRefusal.{CallRefusal}
use Rattle.book.specs.declared.refusal.CallRefusal.TheVariants.{RowRoom}
use Rattle.book.specs.Books.{parts_in, standing_in}
use Rattle.book.specs.Calls.{list_answer}
use Rattle.book.proofs.Asking.{handed_err, passed_ask, refused_ask}
use Rattle.book.proofs.Listing.{page_long}
use Rattle.book.proofs.Listed.{not_fit, no_room, list_accepted}
use Rattle.book.proofs.book.Book.list.Goals as goal

pub returns-in_err-ask_fit : goal.returns-in_err-ask_fit
returns-in_err-ask_fit c =
    let b = c.args.self.now in
    let L = parts_in b in
    let ss = standing_in b in
    let s = (page_of c.args.rows.now) in
    let room : Room = record { orders = 0; rows = length (page_of c.args.rows.now).places } in
    let x = c.in_err-ask_fit.field-0.0 in
    record {
      same = refl;
      room = refl;
      answer = λ walk. subst (λ (r : Result ℕ CallRefusal). list_answer r ≡ (list L room ss walk).answer) (handed_err c.from_residual.result x c.from_residual.ensures.1) (sym (ap (λ (z : Reply). z.answer) (not_fit L room ss walk x c.in_err-ask_fit.ensures)));
      rows = λ walk. sym (ap (λ (z : Reply). rewritten z.rows s) (not_fit L room ss walk x c.in_err-ask_fit.ensures));
    }

pub returns-in_err-ask : goal.returns-in_err-ask
returns-in_err-ask c =
    let b = c.args.self.now in
    let L = parts_in b in
    let ss = standing_in b in
    let s = (page_of c.args.rows.now) in
    let room : Room = record { orders = 0; rows = length (page_of c.args.rows.now).places } in
    let number = refused_ask (leb c.standing-standing.result c.room.result) c.in_err-ask.field-0.0 RowRoom c.in_err-ask.ensures ∙ ap₂ (λ (m n : ℕ). cond (leb m n) 0 18) c.standing-standing.ensures c.room.ensures in
    let x = c.in_err-ask.field-0.0 in
    record {
      same = refl;
      room = refl;
      answer = λ walk. subst (λ (r : Result ℕ CallRefusal). list_answer r ≡ (list L room ss walk).answer) (handed_err c.from_residual-in_err-ask.result x c.from_residual-in_err-ask.ensures.1) (sym (ap (λ (z : Reply). z.answer) (no_room L room ss walk c.in_ok-ask_fit.ensures x number)));
      rows = λ walk. sym (ap (λ (z : Reply). rewritten z.rows s) (no_room L room ss walk c.in_ok-ask_fit.ensures x number));
    }

pub write_rows-requires : goal.write_rows-requires
write_rows-requires c =
    let b = c.args.self.now in
    omega (arith, passed_ask c.standing-standing.result c.room.result RowRoom c.in_ok-ask.ensures, c.standing-standing.ensures, c.room.ensures, rows_length (parts_in b) (standing_in b) (sound_from (parts_in b) (standing_in b) b.sound))

pub returns : goal.returns
returns c =
    let b = c.args.self.now in
    let L = parts_in b in
    let ss = standing_in b in
    let s = (page_of c.args.rows.now) in
    let room : Room = record { orders = 0; rows = length (page_of c.args.rows.now).places } in
    let l : length ss ≤ room.rows = omega (arith, passed_ask c.standing-standing.result c.room.result RowRoom c.in_ok-ask.ensures, c.standing-standing.ensures, c.room.ensures) in
    record {
      same = ap (λ (s : Page Session). s.memory) c.write_rows.ensures;
      room = (page_long (rows_of L ss) s (page_of c.write_rows.new.rows) c.write_rows.ensures (omega (arith, l, rows_length L ss (sound_from L ss b.sound)))).1;
      answer = λ walk. ap listed c.standing-standing.ensures ∙ sym (ap (λ (z : Reply). z.answer) (list_accepted L room ss walk c.in_ok-ask_fit.ensures l));
      rows = λ walk. c.write_rows.ensures ∙ sym (ap (λ (z : Reply). rewritten z.rows s) (list_accepted L room ss walk c.in_ok-ask_fit.ensures l));
    }
