-- The reply to a list on each way.
use Rattle.std.proofs.Common.{◌≡◌, ℕ, ◌≤◌, Bool, cond, leb, List, [], ◌∷◌, length, Some, None, sym, ap, ◌∙◌, arith}
use Rattle.std.proofs.lemmas.Bool.{le-leb}
use Rattle.reckoning.specs.declared.session.Session.{Session}
use Rattle.reckoning.specs.Calls.{Reply, refused, listed, unchanged, list}
use Rattle.reckoning.specs.Parts.{Parts}
use Rattle.reckoning.specs.Questions.{Room, verdict, fit, list_questions}
use Rattle.reckoning.specs.Sheets.{rows_of}
use Rattle.book.specs.declared.refusal.CallRefusal.{CallRefusal}
use Rattle.book.specs.Refusals.{refusal_number}
use Rattle.book.proofs.Asking.{at_first, led_on}
use Rattle.book.proofs.Preparing.{judged_no, judged_yes}

module _ (L : Parts) (room : Room) (ss : List Session) (walk : List ℕ) where
  abbrev rowed : Reply
  rowed = record { answer = listed (length ss); orders = None; rows = Some (rows_of L ss); walk = walk; after = ss }

  list_refused : (x : CallRefusal) → refusal_number x ≡ verdict (list_questions L room ss) → list L room ss walk ≡ unchanged ss walk (refused (refusal_number x))
  list_refused x h = judged_no ss walk (verdict (list_questions L room ss)) rowed x h

  pub not_fit : (x : CallRefusal) → refusal_number x ≡ verdict (fit L) → list L room ss walk ≡ unchanged ss walk (refused (refusal_number x))
  not_fit x h = list_refused x (at_first x (fit L) ((leb (length ss) room.rows, 18) ∷ []) h)

  module _ (e : 0 ≡ verdict (fit L)) where
    at_room : cond (leb (length ss) room.rows) 0 18 ≡ verdict (list_questions L room ss)
    at_room = led_on (fit L) ((leb (length ss) room.rows, 18) ∷ []) (omega arith) e

    pub no_room : (x : CallRefusal) → refusal_number x ≡ cond (leb (length ss) room.rows) 0 18 → list L room ss walk ≡ unchanged ss walk (refused (refusal_number x))
    no_room x h = list_refused x (h ∙ at_room)

    pub list_accepted : length ss ≤ room.rows → list L room ss walk ≡ rowed
    list_accepted l = judged_yes ss walk (verdict (list_questions L room ss)) rowed (ap (λ (b : Bool). cond b 0 18) (sym (le-leb _ _ l)) ∙ at_room)
