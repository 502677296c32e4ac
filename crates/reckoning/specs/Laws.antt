-- What holds after every run, in the words of the network: matchings, tables, lightpaths, moves and orders.
use Rattle.std.specs.Prelude.{◌≡◌, ℕ, ◌+◌, ◌*◌, ◌<◌, ◌≤◌, Bool, true, cond, not, ◌⊎◌, List, [], ◌∷◌, length, is_some, Some, None, Ok, sum_by, count_by, filter, Option, ◌==◌, ◌≢◌}
use Rattle.std.specs.List.{range_with_len}
use Rattle.network.specs.Network.{Network, Ends, Grouped, Separate, Meeting}
use Rattle.plant.specs.Switch.{Switch}
use Rattle.plant.specs.Orders.{answer_to, after, darken, light, Order as Put}
use Rattle.reckoning.specs.declared.session.Session.{Session}
use Rattle.reckoning.specs.declared.order.Order.{Order}
use Rattle.reckoning.specs.declared.order.Kind.{Kind}
use Rattle.reckoning.specs.declared.order.Kind.TheVariants.{Darken, Light}
use Rattle.reckoning.specs.declared.call.Call.{Call}
use Rattle.reckoning.specs.declared.call.Call.TheVariants.{Admit, Quote}
use Rattle.reckoning.specs.Lists.{In, Pairwise}
use Rattle.reckoning.specs.Parts.{Parts, parts_told}
use Rattle.reckoning.specs.Standing.{bears}
use Rattle.reckoning.specs.Sheets.{rows_of}
use Rattle.reckoning.specs.Questions.{Room, Question, verdict, admit_before}
use Rattle.reckoning.specs.Calls.{Answer, refused, admitted, quoted, Reply, new_session, reply, replies, standing_after, admissions, releases}

-- ---- the standing sessions

-- two sessions on one wavelength leave different groups and enter different groups: the edges of one colour are a matching
abbrev pub Clear : (ℕ → ℕ) → Session → Session → Type 0
Clear g s t = s.wavelength ≡ t.wavelength → (g s.source ≢ g t.source) × (g s.destination ≢ g t.destination)

abbrev pub Unlike : Session → Session → Type 0
Unlike s t = s.number ≡ t.number → ⊥

pub record Sound (L : Parts) (ss : List Session) : Type 0 where
  pub clear : Pairwise (Clear L.group) ss
  pub unlike : Pairwise Unlike ss
  pub low : (s : Session) → In s ss → s.wavelength < L.wavelengths
  -- the plant has its groups
  pub grouped : (s : Session) → In s ss → (L.group s.source < L.plant_groups) × (L.group s.destination < L.plant_groups)
  pub placed : (s : Session) → In s ss → Ends L.sites s.source s.destination

-- the two light a common fibre
abbrev pub Meet : (ℕ → ℕ → ℕ → Bool) → Session → Session → Type 0
Meet lights s t = (f : ℕ) × (lights s.source s.destination f ≡ true) × (lights t.source t.destination f ≡ true)

-- a wavelength below W for each, so that two that light a common fibre differ
pub record Table (lights : ℕ → ℕ → ℕ → Bool) (W : ℕ) (ss : List Session) (wave : Session → ℕ) : Type 0 where
  pub low : (s : Session) → In s ss → wave s < W
  pub differ : Pairwise (λ s t. Meet lights s t → wave s ≢ wave t) ss

abbrev pub NoTable : (ℕ → ℕ → ℕ → Bool) → ℕ → List Session → Type 0
NoTable lights W ss = (wave : Session → ℕ) → Table lights W ss wave → ⊥

-- ---- the plant under the orders of a call

-- the plant carries the sessions, and nothing else
pub record Carries (L : Parts) (ss : List Session) (t : Switch) : Type 0 where
  pub waves : t.waves ≡ L.wavelengths
  pub groups : t.groups ≡ L.plant_groups
  pub each : (s : Session) → In s ss → t.hears s.wavelength (L.group s.destination) ≡ Some (L.group s.source)
  pub nothing_else :
      (w b a : ℕ) → t.hears w b ≡ Some a →
      (s : Session) × In s ss × (s.wavelength ≡ w) × (L.group s.destination ≡ b) × (L.group s.source ≡ a)

-- lit lightpaths: the pairs of a wavelength and a group that hears any on it
abbrev pub lightpaths : Switch → ℕ
lightpaths t = sum_by (λ w. count_by (λ b. is_some (t.hears w b)) (range_with_len 0 t.groups)) (range_with_len 0 t.waves)

-- an order as it is put to a plant
abbrev pub put_as : Kind → ℕ → ℕ → ℕ → Put
put_as Darken w a b = darken w a b
put_as Light w a b = light w a b

abbrev pub put : Order → Put
put o = put_as o.kind o.wavelength o.source o.destination

-- the numbers of the sessions that are dark
abbrev pub darkened : Kind → ℕ → List ℕ → List ℕ
darkened Darken n ns = n ∷ ns
darkened Light n ns = filter (λ m. not (m == n)) ns

-- carried out singly, each order is accepted, and at most two sessions are dark; End holds of the plant after the last
abbrev pub CarriedOut : (Switch → Type 0) → Switch → List ℕ → List Order → Type 0
CarriedOut End t dark [] = End t
CarriedOut End t dark (o ∷ os) =
    (answer_to t (put o) ≡ Ok tt) × (length (darkened o.kind o.session dark) ≤ 2)
    × CarriedOut End (after t (put o)) (darkened o.kind o.session dark) os

-- what a call writes into the order sheet
abbrev pub written : Option (List Order) → List Order
written None = []
written (Some os) = os

-- ---- an admission

-- one session: only the wavelength may differ
abbrev pub SameEnds : Session → Session → Type 0
SameEnds s t = (s.number ≡ t.number) × (s.source ≡ t.source) × (s.destination ≡ t.destination)

-- the wavelength on which the session of this number stands, 0 where none does
abbrev pub where_is : List Session → ℕ → ℕ
where_is [] n = 0
where_is (s ∷ ss) n = cond (bears n s) s.wavelength (where_is ss n)

-- how many of the sessions have another wavelength afterwards
abbrev pub retuned : List Session → List Session → ℕ
retuned ss later = count_by (λ s. not (where_is later s.number == s.wavelength)) ss

-- refused for want of a wavelength at the source, or at the destination
abbrev pub Blocked : Answer → Type 0
Blocked a = (a ≡ refused 23) ⊎ (a ≡ refused 24)

-- accepted with m moves
pub record Moves (L : Parts) (ss : List Session) (r : Reply) (m : ℕ) : Type 0 where
  -- as many sessions get another wavelength as it answers
  pub told : retuned ss r.after ≡ m
  pub few : m + 1 ≤ L.groups
  pub orders : length (written r.orders) ≡ 2 * m + 1

-- r: the reply to an admission of `new`; before: its questions before those on wavelengths
pub record Admits (n : Network) (L : Parts) (ss : List Session) (before : List Question) (new : Session) (limit : ℕ) (r : Reply) : Type 0 where
  -- refused for want of a wavelength exactly when the questions before hold and no table exists for the sessions with the new one
  pub blocked_then : Meeting n → Blocked r.answer → (verdict before ≡ 0) × NoTable n.lights L.wavelengths (new ∷ ss)
  pub blocked_when : verdict before ≡ 0 → NoTable n.lights L.wavelengths (new ∷ ss) → Blocked r.answer
  pub moves : (w m : ℕ) → r.answer ≡ admitted w m → Moves L ss r m
  -- a limit of one less than the groups is never too low
  pub limit_serves : L.groups ≤ limit + 1 → r.answer ≢ refused 25

-- an admission that is accepted would have been quoted so; and the reverse, with room for its orders and a limit that is high enough
pub record Quotes (L : Parts) (room : Room) (limit : ℕ) (quoting admitting : Answer) : Type 0 where
  pub quoted_if : (w m : ℕ) → admitting ≡ admitted w m → quoting ≡ quoted w m
  pub admitted_if : 2 * L.plant_groups ≤ room.orders + 1 → L.groups ≤ limit + 1 → (w m : ℕ) → quoting ≡ quoted w m → admitting ≡ admitted w m

-- ---- runs

pub record Safe (n : Network) (L : Parts) (ss : List Session) : Type 0 where
  pub sound : Sound L ss
  -- no two standing sessions that light one fibre share a wavelength
  pub no_clash : Pairwise (λ s t. Meet n.lights s t → s.wavelength ≢ t.wavelength) ss
  -- a plant that carries the sessions has one lit lightpath for each
  pub lit_count : (t : Switch) → Carries L ss t → lightpaths t ≡ length ss
  -- the rows are all of the sessions
  pub rows_whole : (length (rows_of L ss) ≡ length ss) × ((s : Session) → In s ss → In s (rows_of L ss))
  -- the orders of any call lead from a plant that carries the sessions to one that carries the sessions after it
  pub orders_serve :
      (room : Room) (walk : List ℕ) (c : Call) (t : Switch) → Carries L ss t →
      CarriedOut (Carries L (reply L room ss walk c).after) t [] (written (reply L room ss walk c).orders)
  pub admits :
      (room : Room) (walk : List ℕ) (number source destination limit : ℕ) →
      Admits n L ss (admit_before L room ss walk number source destination) (new_session number source destination 0) limit
      (reply L room ss walk (Admit number source destination limit))
  pub quotes :
      (room : Room) (walk : List ℕ) (number source destination limit : ℕ) →
      Quotes L room limit (reply L room ss walk (Quote number source destination)).answer (reply L room ss walk (Admit number source destination limit)).answer

-- a run of calls from sessions that stand
pub record RunSafe (n : Network) (L : Parts) (start : List Session) (rs : List Reply) : Type 0 where
  pub safe : Safe n L (standing_after start rs)
  -- each accepted admission adds a session, and each accepted release takes one away
  pub tally : length start + admissions rs ≡ length (standing_after start rs) + releases rs

abbrev pub AlwaysSafe : Type 0
AlwaysSafe =
    (n : Network) (t : Switch) → Grouped n → Separate n →
    Sound (parts_told n t) []
    × ((start : List Session) → Sound (parts_told n t) start → (room : Room) (walk : List ℕ) (calls : List Call) →
    RunSafe n (parts_told n t) start (replies (parts_told n t) room start walk calls))
