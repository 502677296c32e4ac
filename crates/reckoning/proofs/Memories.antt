-- It does not matter in which memory a sheet lies: what is answered of moments is answered of them with that left out.
-- So the law of runs holds of calls, each handed sheets of its own, wherever these hold what the last call's did.
use Rattle.std.proofs.Common.{◌≡◌, List, Some, None, Option, refl, ap, ◌∙◌}
use Rattle.reckoning.specs.declared.call.Call.{Call}
use Rattle.sheet.specs.Sheets.{Page, rewritten}
use Rattle.reckoning.specs.Calls.{Answer}
use Rattle.reckoning.specs.Parts.{Parts}
use Rattle.reckoning.specs.Runs.{Moment, reply_in, Answered}

abbrev pub anywhere : {X : Type 0} → Page X → Page X
anywhere s = record { memory = 0; count = s.count; places = s.places }

rewritten_anywhere : {X : Type 0} (o : Option (List X)) (s : Page X) → anywhere (rewritten o s) ≡ rewritten o (anywhere s)
rewritten_anywhere None s = refl
rewritten_anywhere (Some xs) s = refl

abbrev pub left_out : Moment → Moment
left_out m = record { standing = m.standing; plant = m.plant; orders = anywhere m.orders; rows = anywhere m.rows; walk = m.walk }

pub answered_anywhere : (L : Parts) (c : Call) (a : Answer) (m m' : Moment) → Answered L c a m m' → Answered L c a (left_out m) (left_out m')
answered_anywhere L c a m m' x =
    record {
      answer = x.answer;
      standing = x.standing;
      plant = x.plant;
      orders = ap anywhere x.orders ∙ rewritten_anywhere (reply_in L m c).orders m.orders;
      rows = ap anywhere x.rows ∙ rewritten_anywhere (reply_in L m c).rows m.rows;
      walk = x.walk;
      room = x.room;
    }
