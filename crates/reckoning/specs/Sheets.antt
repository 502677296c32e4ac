-- What a call writes: orders, the codes of the chains, and rows.
use Rattle.std.specs.Prelude.{ℕ, ◌+◌, ◌*◌, List, [], ◌∷◌, ◌++◌, map, reverse, length, drop}
use Rattle.std.specs.List.{range_with_len}
use Rattle.reckoning.specs.declared.session.Session.{Session}
use Rattle.reckoning.specs.declared.order.Order.{Order}
use Rattle.reckoning.specs.declared.order.Kind.{Kind}
use Rattle.reckoning.specs.declared.order.Kind.TheVariants.{Darken, Light}
use Rattle.reckoning.specs.Lists.{first, flat, as_list}
use Rattle.reckoning.specs.Parts.{Parts}
use Rattle.reckoning.specs.Standing.{leaves}
use Rattle.reckoning.specs.Plans.{Plan, moved, swap}
use Rattle.plant.specs.declared.change_over.Retuning.{Retuning}
use Rattle.plant.specs.declared.lightpath.Lightpath.{Lightpath}

abbrev pub order : (ℕ → ℕ) → Kind → Session → Order
order g k s = record { kind = k; wavelength = s.wavelength; source = g s.source; destination = g s.destination; session = s.number }

-- the lightpath of a session
abbrev pub lightpath : (ℕ → ℕ) → Session → Lightpath
lightpath g s = record { wavelength = s.wavelength; source = g s.source; destination = g s.destination }

-- what is left once the first is dark; the list has a chain from its end to its start.
-- Each is darkened before the one after it in the chain is lit again, since that one takes its wavelength
abbrev pub back : (ℕ → ℕ) → ℕ → ℕ → List Session → List Order
back g p q [] = []
back g p q (e ∷ []) = order g Light (moved p q e) ∷ []
back g p q (e ∷ d ∷ es) = order g Darken d ∷ order g Light (moved p q e) ∷ back g p q (d ∷ es)

abbrev pub chain_orders : (ℕ → ℕ) → ℕ → ℕ → List Session → List Order
chain_orders g p q [] = []
chain_orders g p q (e ∷ es) = order g Darken e ∷ back g p q (e ∷ es)

-- the chain moves, its last first, and then the new session n is lit
abbrev pub orders : (ℕ → ℕ) → Plan → Session → List Order
orders g P n = chain_orders g P.p P.q (reverse P.moving) ++ (order g Light n ∷ [])

-- a session of the moving chain, as a plant changes it over
abbrev pub retuning : (ℕ → ℕ) → ℕ → ℕ → Session → Retuning
retuning g p q e = record { path = lightpath g e; onto = swap p q e.wavelength }

-- a session by its wavelength and source group
abbrev pub code : (ℕ → ℕ) → Session → ℕ
code g e = e.wavelength * 32 + g e.source

abbrev pub codes : (ℕ → ℕ) → List Session → List ℕ
codes g es = map (code g) es

-- the walk list, a caller's numbers, with the codes of both chains from before the move; what lies behind them is kept
abbrev pub walked : (ℕ → ℕ) → Plan → List ℕ → List ℕ
walked g P walk =
    let written : List ℕ = codes g (P.from_source ++ P.from_destination) in
    written ++ drop (length written) walk

-- the standing sessions by wavelength, then source group
abbrev pub rows_of : Parts → List Session → List Session
rows_of L ss =
    flat (λ w. flat (λ a. as_list (first (leaves L.group w a) ss)) (range_with_len 0 L.plant_groups)) (range_with_len 0 L.wavelengths)
