-- A controller as it is seen between two calls, and the law that every run of its calls keeps.
use Rattle.std.specs.Prelude.{◌≡◌, ℕ, ◌+◌, ◌*◌, ◌<◌, ◌≤◌, ◌⊎◌, List, [], ◌∷◌, map, length, count_by, ◌≢◌}
use Rattle.network.specs.Network.{Network, Grouped, Separate, Meeting}
use Rattle.plant.specs.Switch.{Switch}
use Rattle.plant.specs.Orders.{until_refused}
use Rattle.sheet.specs.Sheets.{Page, records, rewritten}
use Rattle.reckoning.specs.declared.session.Session.{Session}
use Rattle.reckoning.specs.declared.order.Order.{Order}
use Rattle.reckoning.specs.declared.call.Call.{Call}
use Rattle.reckoning.specs.declared.call.Call.TheVariants.{Admit, Release, Quote, Where, List as Rows}
use Rattle.reckoning.specs.Lists.{In, Pairwise}
use Rattle.reckoning.specs.Parts.{Parts, parts_told}
use Rattle.reckoning.specs.Standing.{sent, received}
use Rattle.reckoning.specs.Questions.{Room, verdict, numbered, admit_before}
use Rattle.reckoning.specs.Calls.{Answer, refused, admitted, quoted, released, found, listed, Reply, new_session, reply, is_admitted, is_released}
use Rattle.reckoning.specs.Laws.{Sound, Meet, NoTable, Carries, lightpaths, put, CarriedOut, written, SameEnds, retuned, Blocked}

-- ---- moments

-- between two calls: the standing sessions, the plant, and the caller's sheets and walk list
pub record Moment : Type 0 where
  pub standing : List Session
  pub plant : Switch
  pub orders : Page Order
  pub rows : Page Session
  pub walk : List ℕ

abbrev pub room_in : Moment → Room
room_in m = record { orders = length m.orders.places; rows = length m.rows.places }

abbrev pub reply_in : Parts → Moment → Call → Reply
reply_in L m c = reply L (room_in m) m.standing m.walk c

-- ---- one call, from m to m', with the answer a

-- answer, sessions, sheets and walk list are the reckoning's, for every plant:
-- the orders are put to it one after the other, up to the first that it refuses
pub record Answered (L : Parts) (c : Call) (a : Answer) (m m' : Moment) : Type 0 where
  pub answer : a ≡ (reply_in L m c).answer
  pub standing : m'.standing ≡ (reply_in L m c).after
  pub plant : m'.plant ≡ until_refused m.plant (map put (written (reply_in L m c).orders))
  pub orders : m'.orders ≡ rewritten (reply_in L m c).orders m.orders
  pub rows : m'.rows ≡ rewritten (reply_in L m c).rows m.rows
  pub walk : m'.walk ≡ (reply_in L m c).walk
  pub room : room_in m' ≡ room_in m

-- an admission that was accepted on w with k moves
pub record Admitted (L : Parts) (number source destination w k : ℕ) (m m' : Moment) : Type 0 where
  -- the new session stands, each other stands on between its sites, and nothing else stands
  pub stands : In (new_session number source destination w) m'.standing
  pub others : (s : Session) → In s m.standing → (t : Session) × In t m'.standing × SameEnds t s
  pub only :
      (t : Session) → In t m'.standing →
      (t ≡ new_session number source destination w) ⊎ ((s : Session) × In s m.standing × SameEnds t s)
  -- k sessions have another wavelength
  pub moves_told : retuned m.standing m'.standing ≡ k
  pub moves_few : k + 1 ≤ L.groups
  pub orders_counted : m'.orders.count ≡ 2 * k + 1
  -- carried out singly from the plant as it was, each order is accepted, at most two sessions are ever dark, and the last leaves the plant as the call left it
  pub orders_safe : CarriedOut (λ t. t ≡ m'.plant) m.plant [] (records m'.orders)

pub record OfAdmit (n : Network) (L : Parts) (number source destination limit : ℕ) (a : Answer) (m m' : Moment) : Type 0 where
  -- refused for want of a wavelength exactly when the questions before hold and no table exists for the sessions with the new one
  pub blocked_then :
      Meeting n → Blocked a →
      (verdict (admit_before L (room_in m) m.standing m.walk number source destination) ≡ 0)
      × NoTable n.lights L.wavelengths (new_session number source destination 0 ∷ m.standing)
  pub blocked_when :
      verdict (admit_before L (room_in m) m.standing m.walk number source destination) ≡ 0 →
      NoTable n.lights L.wavelengths (new_session number source destination 0 ∷ m.standing) → Blocked a
  pub accepted : (w k : ℕ) → a ≡ admitted w k → Admitted L number source destination w k m m'
  -- a limit of one less than the groups is never too low
  pub limit_serves : L.groups ≤ limit + 1 → a ≢ refused 25

-- the session stood on w; all others stand as before, and nothing else
pub record OfRelease (number w : ℕ) (m m' : Moment) : Type 0 where
  pub stood : (s : Session) × In s m.standing × (s.number ≡ number) × (s.wavelength ≡ w)
  pub others : (s : Session) → In s m.standing → (s.number ≢ number) → In s m'.standing
  pub only : (s : Session) → In s m'.standing → In s m.standing × (s.number ≢ number)
  pub orders_safe : CarriedOut (λ t. t ≡ m'.plant) m.plant [] (records m'.orders)

-- a quote and the admission that it asks about answer alike
pub record OfQuote (L : Parts) (number source destination : ℕ) (a : Answer) (m : Moment) : Type 0 where
  pub moves_few : (w k : ℕ) → a ≡ quoted w k → k + 1 ≤ L.groups
  -- what is quoted is admitted so, with room for its orders and a limit of at least its moves
  pub admitted_so :
      (room : Room) (limit w k : ℕ) → 2 * L.plant_groups ≤ room.orders + 1 → k ≤ limit → a ≡ quoted w k →
      (reply L room m.standing m.walk (Admit number source destination limit)).answer ≡ admitted w k
  -- what is admitted, with any room and any limit, was quoted so
  pub quoted_so :
      (room : Room) (limit w k : ℕ) →
      (reply L room m.standing m.walk (Admit number source destination limit)).answer ≡ admitted w k → a ≡ quoted w k

pub record OfWhere (L : Parts) (number : ℕ) (a : Answer) (m : Moment) : Type 0 where
  -- what is found stands
  pub stands : (w s d : ℕ) → a ≡ found w s d → In (new_session number s d w) m.standing
  -- what stands is found, where layout and plant fit and the number is at least 1
  pub finds :
      verdict (numbered L number) ≡ 0 → (s : Session) → In s m.standing → s.number ≡ number →
      a ≡ found s.wavelength s.source s.destination

-- by wavelength, then by source group
abbrev pub Before : Parts → Session → Session → Type 0
Before L s t = (s.wavelength < t.wavelength) ⊎ ((s.wavelength ≡ t.wavelength) × (L.group s.source < L.group t.source))

-- the rows are the standing sessions, each once, in order
pub record OfList (L : Parts) (k : ℕ) (m m' : Moment) : Type 0 where
  pub count : (k ≡ length m.standing) × (m'.rows.count ≡ k)
  pub each : (s : Session) → In s m.standing → In s (records m'.rows)
  pub only : (s : Session) → In s (records m'.rows) → In s m.standing
  pub sorted : Pairwise (Before L) (records m'.rows)

abbrev pub OfCall : Network → Parts → Call → Answer → Moment → Moment → Type 0
OfCall n L (Admit number source destination limit) a m m' = OfAdmit n L number source destination limit a m m'
OfCall n L (Release number) a m m' = (w : ℕ) → a ≡ released w → OfRelease number w m m'
OfCall n L (Quote number source destination) a m m' = OfQuote L number source destination a m
OfCall n L (Where number) a m m' = OfWhere L number a m
OfCall n L Rows a m m' = (k : ℕ) → a ≡ listed k → OfList L k m m'

-- no site has more transmitters or receivers in use than ports
abbrev pub PortsServe : Parts → List Session → Type 0
PortsServe L ss = (site : ℕ) → (sent ss site ≤ L.ports site) × (received ss site ≤ L.ports site)

-- what a call keeps to, from a start that is sound
pub record Step (n : Network) (L : Parts) (c : Call) (a : Answer) (m m' : Moment) : Type 0 where
  pub answered : Answered L c a m m'
  -- the plant carries every standing session, and nothing else
  pub carried : Carries L m'.standing m'.plant
  -- no two standing sessions that light one fibre share a wavelength
  pub unblinded : Pairwise (λ s t. Meet n.lights s t → s.wavelength ≢ t.wavelength) m'.standing
  -- as many lightpaths are lit as sessions stand
  pub lit_each : lightpaths m'.plant ≡ length m'.standing
  -- no site comes to use more ports than it has
  pub ports_kept : PortsServe L m.standing → PortsServe L m'.standing
  pub of_call : OfCall n L c a m m'

-- ---- runs

-- calls and their answers lead from m to m'', and R holds of each
abbrev pub Run : (Call → Answer → Moment → Moment → Type 0) → List Call → List Answer → Moment → Moment → Type 0
Run R [] [] m m'' = m ≡ m''
Run R [] (a ∷ rest) m m'' = ⊥
Run R (c ∷ cs) [] m m'' = ⊥
Run R (c ∷ cs) (a ∷ rest) m m'' = (m' : Moment) × R c a m m' × Run R cs rest m' m''

-- a sound start: the parts are the network's, the sessions are sound, and the plant carries them and nothing else
pub record Start (n : Network) (L : Parts) (m : Moment) : Type 0 where
  pub told : (t : Switch) × (L ≡ parts_told n t)
  pub sound : Sound L m.standing
  pub carried : Carries L m.standing m.plant

-- what every run keeps to
pub record Lawful (n : Network) (L : Parts) (calls : List Call) (answers : List Answer) (m m' : Moment) : Type 0 where
  pub each : Run (Step n L) calls answers m m'
  -- lit lightpaths: those at the start, with the accepted admissions, without the accepted releases
  pub lit_count : lightpaths m'.plant + count_by is_released answers ≡ lightpaths m.plant + count_by is_admitted answers
  -- where it ends another run can start
  pub end : Start n L m'

abbrev pub LawOfRuns : Type 0
LawOfRuns =
    (n : Network) → Grouped n → Separate n → (L : Parts) (calls : List Call) (answers : List Answer) (m m' : Moment) →
    Start n L m → Run (Answered L) calls answers m m' → Lawful n L calls answers m m'
