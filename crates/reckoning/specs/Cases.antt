-- Worked cases: calls on a new star or splitter, each answer, and what the last call leaves in sheets and walk list.
use Rattle.std.specs.Prelude.{◌≡◌, ℕ, ◌-◌, ◌*◌, List, [], ◌∷◌, map, replicate, Some, None, Option}
use Rattle.std.specs.List.{AllByRecursion}
use Rattle.network.specs.Network.{star_network, splitter_network}
use Rattle.plant.specs.Switch.{dark_switch}
use Rattle.reckoning.specs.declared.session.Session.{Session}
use Rattle.reckoning.specs.declared.order.Order.{Order}
use Rattle.reckoning.specs.declared.order.Kind.TheVariants.{Darken, Light}
use Rattle.reckoning.specs.declared.call.Call.{Call}
use Rattle.reckoning.specs.declared.call.Call.TheVariants.{Admit, Release, Quote, Where, List as Rows}
use Rattle.reckoning.specs.Parts.{Parts, parts_told}
use Rattle.reckoning.specs.Calls.{Answer, refused, admitted, quoted, released, found, listed, Reply, unchanged, new_session, replies}

pub data Case : Type 0 where
  -- parts, calls, answers; after the last call: orders, rows, walk list
  case : Parts → List Call → List Answer → Option (List Order) → Option (List Session) → List ℕ → Case

abbrev pub last_of : Reply → List Reply → Reply
last_of r [] = r
last_of r (x ∷ xs) = last_of x xs

-- just as much room as an admission asks for, and room for so many rows; 99 marks a place of the walk list that is not written
abbrev pub run_with : ℕ → Parts → List Call → List Reply
run_with room L calls = replies L (record { orders = 2 * L.plant_groups - 1; rows = room }) [] (replicate (2 * L.plant_groups - 2) 99) calls

abbrev pub WorksWith : ℕ → Case → Type 0
WorksWith room (case L calls answers orders rows walk) =
    let last : Reply = last_of (unchanged [] [] (refused 0)) (run_with room L calls) in
    (map (λ r. r.answer) (run_with room L calls) ≡ answers) × (last.orders ≡ orders) × (last.rows ≡ rows) × (last.walk ≡ walk)

-- with room for four rows
abbrev pub run : Parts → List Call → List Reply
run = run_with 4

abbrev pub Works : Case → Type 0
Works = WorksWith 4

-- wavelength, source group, destination group and session
abbrev pub dark : ℕ → ℕ → ℕ → ℕ → Order
dark w a b n = record { kind = Darken; wavelength = w; source = a; destination = b; session = n }

abbrev pub lit : ℕ → ℕ → ℕ → ℕ → Order
lit w a b n = record { kind = Light; wavelength = w; source = a; destination = b; session = n }

-- so many sites of 2 ports, and W wavelengths
abbrev pub star_of : ℕ → ℕ → Parts
star_of sites W = parts_told (star_network (replicate sites 2)) (dark_switch W sites)

-- two branches of two sites of 1 port
abbrev pub branches : ℕ → Parts
branches W = parts_told (splitter_network (replicate 4 1) (0 ∷ 0 ∷ 1 ∷ 1 ∷ []) 2) (dark_switch W 2)

abbrev pub cases : List Case
cases =
    -- the destination chain is the shorter, but the limit forbids its move: the walk list shows both chains
    case (star_of 4 2)
    (Admit 1 0 1 3 ∷ Admit 2 1 2 3 ∷ Admit 3 0 2 3 ∷ Admit 4 3 1 3 ∷ Release 3 ∷ Quote 5 3 2 ∷ Admit 5 3 2 0 ∷ [])
    (admitted 0 0 ∷ admitted 0 0 ∷ admitted 1 0 ∷ admitted 1 0 ∷ released 1 ∷ quoted 0 1 ∷ refused 25 ∷ [])
    None None (35 ∷ 0 ∷ 1 ∷ 99 ∷ 99 ∷ 99 ∷ [])
    -- its one session moves
    ∷ case (star_of 4 2)
    (Admit 1 0 1 3 ∷ Admit 2 1 2 3 ∷ Admit 3 0 2 3 ∷ Admit 4 3 1 3 ∷ Release 3 ∷ Admit 5 3 2 0 ∷ Admit 5 3 2 3 ∷ [])
    (admitted 0 0 ∷ admitted 0 0 ∷ admitted 1 0 ∷ admitted 1 0 ∷ released 1 ∷ refused 25 ∷ admitted 0 1 ∷ [])
    (Some (dark 0 1 2 2 ∷ lit 1 1 2 2 ∷ lit 0 3 2 5 ∷ [])) None (35 ∷ 0 ∷ 1 ∷ 99 ∷ 99 ∷ 99 ∷ [])
    -- a session that moved is found, a site has no port left, and all are listed
    ∷ case (star_of 4 2)
    (Admit 1 0 1 3 ∷ Admit 2 1 2 3 ∷ Admit 4 3 1 3 ∷ Admit 5 3 2 3 ∷ Where 2 ∷ Admit 6 3 0 3 ∷ Rows ∷ [])
    (admitted 0 0 ∷ admitted 0 0 ∷ admitted 1 0 ∷ admitted 0 1 ∷ found 1 1 2 ∷ refused 21 ∷ listed 4 ∷ [])
    None (Some (new_session 1 0 1 0 ∷ new_session 5 3 2 0 ∷ new_session 2 1 2 1 ∷ new_session 4 3 1 1 ∷ [])) (35 ∷ 0 ∷ 1 ∷ 99 ∷ 99 ∷ 99 ∷ [])
    -- of chains of one length the source chain moves
    ∷ case (star_of 4 2)
    (Admit 8 0 2 3 ∷ Admit 1 0 1 3 ∷ Release 8 ∷ Admit 2 2 3 3 ∷ Admit 3 0 3 3 ∷ [])
    (admitted 0 0 ∷ admitted 1 0 ∷ released 0 ∷ admitted 0 0 ∷ admitted 1 1 ∷ [])
    (Some (dark 1 0 1 1 ∷ lit 0 0 1 1 ∷ lit 1 0 3 3 ∷ [])) None (32 ∷ 2 ∷ 99 ∷ 99 ∷ 99 ∷ 99 ∷ [])
    -- two sessions from site 2 to site 3: the first goes, and the second moves
    ∷ case (star_of 4 2)
    (Admit 1 0 1 3 ∷ Admit 2 2 3 3 ∷ Admit 3 1 0 3 ∷ Admit 4 0 1 3 ∷ Admit 5 2 3 3 ∷ Admit 6 3 0 3 ∷ Release 2 ∷ Release 6 ∷ Admit 7 2 0 3 ∷ [])
    (admitted 0 0 ∷ admitted 0 0 ∷ admitted 0 0 ∷ admitted 1 0 ∷ admitted 1 0 ∷ admitted 1 0 ∷ released 0 ∷ released 1 ∷ admitted 1 1 ∷ [])
    (Some (dark 1 2 3 5 ∷ lit 0 2 3 5 ∷ lit 1 2 0 7 ∷ [])) None (34 ∷ 1 ∷ 99 ∷ 99 ∷ 99 ∷ 99 ∷ [])
    -- as many moves as a star of four sites can need
    ∷ case (star_of 4 2)
    (Admit 1 2 1 3 ∷ Admit 2 1 2 3 ∷ Admit 3 3 0 3 ∷ Admit 4 0 1 3 ∷ Admit 5 2 3 3 ∷ Admit 6 1 0 3 ∷ Admit 7 0 2 3 ∷ [])
    (admitted 0 0 ∷ admitted 0 0 ∷ admitted 0 0 ∷ admitted 1 0 ∷ admitted 1 0 ∷ admitted 1 0 ∷ admitted 1 3 ∷ [])
    (Some (dark 1 2 3 5 ∷ dark 0 2 1 1 ∷ lit 0 2 3 5 ∷ dark 1 0 1 4 ∷ lit 1 2 1 1 ∷ lit 0 0 1 4 ∷ lit 1 0 2 7 ∷ [])) None
    (32 ∷ 2 ∷ 34 ∷ 1 ∷ 33 ∷ 3 ∷ [])
    -- one wavelength: full out of a site, full into a site, and shared by sessions that meet in neither
    ∷ case (star_of 3 1) (Admit 1 0 1 2 ∷ Admit 2 0 2 2 ∷ []) (admitted 0 0 ∷ refused 23 ∷ []) None None (replicate 4 99)
    ∷ case (star_of 3 1) (Admit 1 0 1 2 ∷ Admit 2 2 1 2 ∷ []) (admitted 0 0 ∷ refused 24 ∷ []) None None (replicate 4 99)
    ∷ case (star_of 3 1) (Admit 1 0 1 2 ∷ Admit 2 1 2 2 ∷ []) (admitted 0 0 ∷ admitted 0 0 ∷ []) (Some (lit 0 1 2 2 ∷ [])) None (replicate 4 99)
    -- without moves a third wavelength would be needed
    ∷ case (star_of 3 2)
    (Admit 1 0 1 2 ∷ Admit 2 1 0 2 ∷ Admit 3 0 2 2 ∷ Admit 4 2 0 2 ∷ Admit 5 1 2 2 ∷ [])
    (admitted 0 0 ∷ admitted 0 0 ∷ admitted 1 0 ∷ admitted 1 0 ∷ admitted 0 2 ∷ [])
    (Some (dark 1 2 0 4 ∷ dark 0 1 0 2 ∷ lit 0 2 0 4 ∷ lit 1 1 0 2 ∷ lit 0 1 2 5 ∷ [])) None (1 ∷ 34 ∷ 32 ∷ 0 ∷ [])
    -- and then the last two sites are joined with no move
    ∷ case (star_of 3 2)
    (Admit 1 0 1 2 ∷ Admit 2 1 0 2 ∷ Admit 3 0 2 2 ∷ Admit 4 2 0 2 ∷ Admit 5 1 2 2 ∷ Admit 6 2 1 2 ∷ [])
    (admitted 0 0 ∷ admitted 0 0 ∷ admitted 1 0 ∷ admitted 1 0 ∷ admitted 0 2 ∷ admitted 1 0 ∷ [])
    (Some (lit 1 2 1 6 ∷ [])) None (1 ∷ 34 ∷ 32 ∷ 0 ∷ [])
    -- two sessions inside one branch share its trunks
    ∷ case (branches 2) (Admit 1 0 1 1 ∷ Admit 2 1 0 1 ∷ []) (admitted 0 0 ∷ admitted 1 0 ∷ []) (Some (lit 1 0 0 2 ∷ [])) None (replicate 2 99)
    ∷ case (branches 1) (Admit 1 0 1 1 ∷ Admit 2 1 0 1 ∷ []) (admitted 0 0 ∷ refused 23 ∷ []) None None (replicate 2 99)
    ∷ []

abbrev pub Worked : Type 0
Worked = AllByRecursion Works cases

-- ---- longer cases, with room for ten rows

abbrev pub long_cases : List Case
long_cases =
    -- ten sessions that take every port of five sites: with three wavelengths none moves
    case (star_of 5 3)
    (Admit 1 0 1 4 ∷ Admit 2 1 2 4 ∷ Admit 3 4 0 4 ∷ Admit 4 3 0 4 ∷ Admit 5 2 4 4 ∷ Admit 6 3 1 4 ∷ Admit 7 0 2 4 ∷ Admit 8 1 4 4 ∷ Admit 9 2 3 4 ∷ Admit 10 4 3 4 ∷ [])
    (admitted 0 0 ∷ admitted 0 0 ∷ admitted 0 0 ∷ admitted 1 0 ∷ admitted 0 0 ∷ admitted 2 0 ∷ admitted 1 0 ∷ admitted 1 0 ∷ admitted 1 0 ∷ admitted 2 0 ∷ [])
    (Some (lit 2 4 3 10 ∷ [])) None (replicate 8 99)
    -- with two, as many as a site has ports, three of them move, each once
    ∷ case (star_of 5 2)
    (Admit 1 0 1 4 ∷ Admit 2 1 2 4 ∷ Admit 3 4 0 4 ∷ Admit 4 3 0 4 ∷ Admit 5 2 4 4 ∷ Admit 6 3 1 4 ∷ Admit 7 0 2 4 ∷ Admit 8 1 4 4 ∷ Admit 9 2 3 4 ∷ Admit 10 4 3 4 ∷ Rows ∷ [])
    (admitted 0 0 ∷ admitted 0 0 ∷ admitted 0 0 ∷ admitted 1 0 ∷ admitted 0 0 ∷ admitted 0 1 ∷ admitted 0 1 ∷ admitted 0 1 ∷ admitted 0 0 ∷ admitted 1 0 ∷ listed 10 ∷ [])
    None
    (Some (new_session 7 0 2 0 ∷ new_session 8 1 4 0 ∷ new_session 9 2 3 0 ∷ new_session 6 3 1 0 ∷ new_session 3 4 0 0 ∷ new_session 1 0 1 1 ∷ new_session 2 1 2 1 ∷ new_session 5 2 4 1 ∷ new_session 4 3 0 1 ∷ new_session 10 4 3 1 ∷ []))
    (33 ∷ 0 ∷ 32 ∷ 3 ∷ 35 ∷ 4 ∷ 2 ∷ 99 ∷ [])
    ∷ []

abbrev pub WorkedLong : Type 0
WorkedLong = AllByRecursion (WorksWith 10) long_cases
