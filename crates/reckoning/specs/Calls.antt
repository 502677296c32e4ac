-- What each call answers, what its sheets and the walk list hold after it, and the sessions that then stand; runs of calls.
use Rattle.std.specs.Prelude.{ℕ, zero, suc, Bool, true, false, cond, List, [], ◌∷◌, map, length, Some, None, count_by, Option, ◌==◌}
use Rattle.reckoning.specs.declared.session.Session.{Session}
use Rattle.reckoning.specs.declared.order.Order.{Order}
use Rattle.reckoning.specs.declared.order.Kind.TheVariants.{Darken}
use Rattle.reckoning.specs.declared.call.Call.{Call}
use Rattle.reckoning.specs.declared.call.Call.TheVariants.{Admit, Release, Quote, Where, List as Rows}
use Rattle.reckoning.specs.Lists.{first}
use Rattle.reckoning.specs.Parts.{Parts}
use Rattle.reckoning.specs.Standing.{bears, without}
use Rattle.reckoning.specs.Plans.{Plan, planned, move}
use Rattle.reckoning.specs.Sheets.{order, orders, walked, rows_of}
use Rattle.reckoning.specs.Questions.{Room, verdict, admit_questions, quote_questions, release_questions, where_questions, list_questions}

pub data Answer : Type 0 where
  -- the number of the question that failed
  refused : ℕ → Answer
  -- the wavelength of the new session, and how many sessions move
  admitted : ℕ → ℕ → Answer
  quoted : ℕ → ℕ → Answer
  -- the wavelength given up
  released : ℕ → Answer
  -- wavelength, source and destination
  found : ℕ → ℕ → ℕ → Answer
  -- how many rows
  listed : ℕ → Answer

-- a sheet with None is left as it is; else it holds what is given, and what lies behind is kept
pub record Reply : Type 0 where
  pub answer : Answer
  pub orders : Option (List Order)
  pub rows : Option (List Session)
  pub walk : List ℕ
  pub after : List Session

-- no sheet is written and no session changes
abbrev pub unchanged : List Session → List ℕ → Answer → Reply
unchanged ss walk a = record { answer = a; orders = None; rows = None; walk = walk; after = ss }

-- by the verdict: accepted, or a refusal that leaves this walk list
abbrev pub judged : List Session → List ℕ → ℕ → Reply → Reply
judged ss walk zero accepted = accepted
judged ss walk (suc k) accepted = unchanged ss walk (refused (suc k))

-- ---- the five calls

abbrev pub new_session : ℕ → ℕ → ℕ → ℕ → Session
new_session n s d w = record { number = n; source = s; destination = d; wavelength = w }

abbrev pub admission : Parts → List Session → List ℕ → ℕ → ℕ → ℕ → Plan → Reply
admission L ss walk n s d P =
    let new : Session = new_session n s d P.gives in
    record {
      answer = admitted P.gives (length P.moving);
      orders = Some (orders L.group P new);
      rows = None;
      walk = walked L.group P walk;
      after = new ∷ map (move P) ss;
    }

-- where only the limit is too low, the walk list shows both chains
abbrev pub admit : Parts → Room → List Session → List ℕ → ℕ → ℕ → ℕ → ℕ → Reply
admit L room ss walk n s d limit =
    let P : Plan = planned L ss s d in
    let v : ℕ = verdict (admit_questions L room ss walk n s d limit) in
    judged ss (cond (v == 25) (walked L.group P walk) walk) v (admission L ss walk n s d P)

abbrev pub quote : Parts → List Session → List ℕ → ℕ → ℕ → ℕ → Reply
quote L ss walk n s d =
    let P : Plan = planned L ss s d in
    judged ss walk (verdict (quote_questions L ss walk n s d))
    (unchanged ss (walked L.group P walk) (quoted P.gives (length P.moving)))

abbrev pub release_of : Parts → List Session → List ℕ → Option Session → Reply
release_of L ss walk None = unchanged ss walk (refused 15)
release_of L ss walk (Some s) =
    record {
      answer = released s.wavelength;
      orders = Some (order L.group Darken s ∷ []);
      rows = None;
      walk = walk;
      after = without ss s.number;
    }

abbrev pub release : Parts → Room → List Session → List ℕ → ℕ → Reply
release L room ss walk n = judged ss walk (verdict (release_questions L room ss n)) (release_of L ss walk (first (bears n) ss))

abbrev pub where_of : Option Session → Answer
where_of None = refused 15
where_of (Some s) = found s.wavelength s.source s.destination

abbrev pub locate : Parts → List Session → List ℕ → ℕ → Reply
locate L ss walk n = judged ss walk (verdict (where_questions L ss n)) (unchanged ss walk (where_of (first (bears n) ss)))

abbrev pub list : Parts → Room → List Session → List ℕ → Reply
list L room ss walk =
    judged ss walk (verdict (list_questions L room ss))
    (record { answer = listed (length ss); orders = None; rows = Some (rows_of L ss); walk = walk; after = ss })

abbrev pub reply : Parts → Room → List Session → List ℕ → Call → Reply
reply L room ss walk (Admit n s d limit) = admit L room ss walk n s d limit
reply L room ss walk (Release n) = release L room ss walk n
reply L room ss walk (Quote n s d) = quote L ss walk n s d
reply L room ss walk (Where n) = locate L ss walk n
reply L room ss walk Rows = list L room ss walk

-- ---- runs

-- each call meets the sessions and the walk list that the one before it left
abbrev pub replies : Parts → Room → List Session → List ℕ → List Call → List Reply
replies L room ss walk [] = []
replies L room ss walk (c ∷ cs) =
    let r : Reply = reply L room ss walk c in
    r ∷ replies L room r.after r.walk cs

-- the sessions after the last reply
abbrev pub standing_after : List Session → List Reply → List Session
standing_after ss [] = ss
standing_after ss (r ∷ rs) = standing_after r.after rs

abbrev pub is_admitted : Answer → Bool
is_admitted (refused k) = false
is_admitted (admitted w m) = true
is_admitted (quoted w m) = false
is_admitted (released w) = false
is_admitted (found w s d) = false
is_admitted (listed n) = false

abbrev pub is_released : Answer → Bool
is_released (refused k) = false
is_released (admitted w m) = false
is_released (quoted w m) = false
is_released (released w) = true
is_released (found w s d) = false
is_released (listed n) = false

-- how many admissions and how many releases were accepted
abbrev pub admissions : List Reply → ℕ
admissions rs = count_by (λ r. is_admitted r.answer) rs

abbrev pub releases : List Reply → ℕ
releases rs = count_by (λ r. is_released r.answer) rs
