-- What the calls of a controller promise: the reckoning's replies for every plant, and the law from every sound start.
use Rattle.std.specs.Prelude.{◌≡◌, ℕ, true, List, [], map, Result}
use Rattle.network.specs.Network.{Meeting}
use Rattle.network.specs.declared.layout.Layout.{Ghosts as LayoutGhosts}
use Rattle.plant.specs.declared.Plant.{Ghosts as PlantGhosts}
use Rattle.reckoning.specs.declared.call.Call.{Call}
use Rattle.reckoning.specs.declared.call.Call.TheVariants.{Admit, Release, Quote, Where, List as Rows}
use Rattle.reckoning.specs.declared.order.Order.{Order}
use Rattle.reckoning.specs.declared.session.Session.{Session}
use Rattle.reckoning.specs.Calls.{Answer, admitted, quoted, released, found, listed, replies, standing_after}
use Rattle.reckoning.specs.Parts.{is_dark, parts_told}
use Rattle.sheet.specs.Sheets.{Page}
use Rattle.reckoning.specs.Runs.{Moment, room_in, Answered, Step, Run, Start, Lawful}
use Rattle.book.specs.declared.refusal.CallRefusal.{CallRefusal}
use Rattle.book.specs.Books.{parts_in, standing_in}
use Rattle.book.specs.Calls.{answered, quote_answer, where_answer, list_answer}
use Rattle.controller.specs.declared.answer.Answer.{Answer as Accepted}
use Rattle.controller.specs.declared.answer.Answer.TheVariants.{Admitted, Quoted, Released, Found, Listed}
use Rattle.controller.specs.declared.controller.Controller.{Controller}

-- a controller and its caller's sheets and walk list, between two calls
abbrev pub moment : {N P : Type 0} → PlantGhosts P → Controller N P → Page Order → Page Session → List ℕ → Moment
moment D c orders rows walk =
    record { standing = standing_in c.book; plant = D.state c.plant; orders = orders; rows = rows; walk = walk }

-- what no call changes: the layout, the parts as told at the making, and what the plant keeps
pub record Same {N P : Type 0} (D : PlantGhosts P) (c c' : Controller N P) : Type 0 where
  pub layout : c'.layout ≡ c.layout
  pub setting : c'.book.setting ≡ c.book.setting
  pub kept : D.kept c'.plant ≡ D.kept c.plant

-- one call, answered by a, that leads from m to m'
pub record Serves {N P : Type 0} (E : LayoutGhosts N) (c : Controller N P) (call : Call) (a : Answer) (m m' : Moment) : Type 0 where
  -- for every plant in every state
  pub answered : Answered (parts_in c.book) call a m m'
  -- from a sound start: the plant goes on to carry the standing sessions and nothing else, with all that the law says of a call
  pub lawful :
      Start (E.network c.layout) (parts_in c.book) m →
      Step (E.network c.layout) (parts_in c.book) call a m m' × Start (E.network c.layout) (parts_in c.book) m'

-- wavelength and moves
abbrev pub admit_answer : Result (ℕ × ℕ) CallRefusal → Answer
admit_answer r = answered (λ x. admitted x.0 x.1) r

abbrev pub accepted : Accepted → Answer
accepted (Admitted w m) = admitted w m
accepted (Quoted w m) = quoted w m
accepted (Released w) = released w
accepted (Found w s d) = found w s d
accepted (Listed n) = listed n

-- what any of the calls answers
abbrev pub answer_of : Result Accepted CallRefusal → Answer
answer_of r = answered accepted r

abbrev pub release_answer : Result ℕ CallRefusal → Answer
release_answer r = answered released r

-- ---- the five calls; what the sheets hold that a call does not take does not matter

abbrev pub Admits : {N P : Type 0} → LayoutGhosts N → PlantGhosts P → Controller N P → Controller N P → ℕ → ℕ → ℕ → ℕ → Result (ℕ × ℕ) CallRefusal → Page Order → Page Order → List ℕ → List ℕ → Type 0
Admits E D c c' number source destination limit r orders orders' walk walk' =
    (rows : Page Session) → Serves E c (Admit number source destination limit) (admit_answer r) (moment D c orders rows walk) (moment D c' orders' rows walk')

abbrev pub Releases : {N P : Type 0} → LayoutGhosts N → PlantGhosts P → Controller N P → Controller N P → ℕ → Result ℕ CallRefusal → Page Order → Page Order → Type 0
Releases E D c c' number r orders orders' =
    (rows : Page Session) (walk : List ℕ) → Serves E c (Release number) (release_answer r) (moment D c orders rows walk) (moment D c' orders' rows walk)

abbrev pub Quotes : {N P : Type 0} → LayoutGhosts N → PlantGhosts P → Controller N P → ℕ → ℕ → ℕ → Result (ℕ × ℕ) CallRefusal → List ℕ → List ℕ → Type 0
Quotes E D c number source destination r walk walk' =
    (orders : Page Order) (rows : Page Session) → Serves E c (Quote number source destination) (quote_answer r) (moment D c orders rows walk) (moment D c orders rows walk')

abbrev pub Locates : {N P : Type 0} → LayoutGhosts N → PlantGhosts P → Controller N P → ℕ → Result Session CallRefusal → Type 0
Locates E D c number r =
    (orders : Page Order) (rows : Page Session) (walk : List ℕ) → Serves E c (Where number) (where_answer r) (moment D c orders rows walk) (moment D c orders rows walk)

abbrev pub Lists : {N P : Type 0} → LayoutGhosts N → PlantGhosts P → Controller N P → Result ℕ CallRefusal → Page Session → Page Session → Type 0
Lists E D c r rows rows' =
    (orders : Page Order) (walk : List ℕ) → Serves E c Rows (list_answer r) (moment D c orders rows walk) (moment D c orders rows' walk)

-- ---- making, and lists of calls

-- a controller as made
pub record Made {N P : Type 0} (E : LayoutGhosts N) (D : PlantGhosts P) (layout : N) (plant : P) (c : Controller N P) : Type 0 where
  pub held : c.layout ≡ layout
  pub driven : c.plant ≡ plant
  pub told : parts_in c.book ≡ parts_told (E.network layout) (D.state plant)
  pub none : standing_in c.book ≡ []
  -- with a dark plant it is a sound start
  pub start :
      is_dark (D.state plant) ≡ true → (orders : Page Order) (rows : Page Session) (walk : List ℕ) →
      Start (E.network c.layout) (parts_in c.book) (moment D c orders rows walk)

-- a list of calls, answered in turn, that leads from m to m'
pub record Served {N P : Type 0} (E : LayoutGhosts N) (c : Controller N P) (calls : List Call) (answers : List Answer) (m m' : Moment) : Type 0 where
  -- for every plant in every state: answers, sheets, walk list and sessions are the reckoning's, call by call
  pub answered : Run (Answered (parts_in c.book)) calls answers m m'
  -- so the answers are those of the list that the reckoning makes
  pub replied :
      (answers ≡ map (λ y. y.answer) (replies (parts_in c.book) (room_in m) m.standing m.walk calls))
      × (m'.standing ≡ standing_after m.standing (replies (parts_in c.book) (room_in m) m.standing m.walk calls))
  -- from a sound start the whole law of runs
  pub lawful : Start (E.network c.layout) (parts_in c.book) m → Lawful (E.network c.layout) (parts_in c.book) calls answers m m'
  -- sessions with a common end group meet in some fibre, as one half of "refused exactly when no table exists" asks
  pub meeting : Meeting (E.network c.layout)
