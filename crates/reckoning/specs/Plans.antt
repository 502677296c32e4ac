-- Which wavelength a new session gets, and which sessions move for it: a wavelength free at both ends, or the exchange of two along an alternating path.
use Rattle.std.specs.Prelude.{ℕ, ◌*◌, Bool, true, false, cond, not, ◌&&◌, List, [], length, None, Option, ◌==◌, nat_le, nat_lt}
use Rattle.reckoning.specs.declared.session.Session.{Session}
use Rattle.reckoning.specs.Lists.{first, any, lowest, chain}
use Rattle.reckoning.specs.Parts.{Parts}
use Rattle.reckoning.specs.Standing.{bears, leaves, enters, lit_out, lit_into}

-- after a session on q into a group comes the one on p into it; after one on p out of a group, the one on q out of it
abbrev pub next : (ℕ → ℕ) → List Session → ℕ → ℕ → Session → Option Session
next g ss p q s =
    cond (s.wavelength == q) (first (enters g p (g s.destination)) ss)
    (cond (s.wavelength == p) (first (leaves g q (g s.source)) ss) None)

-- the wavelength given, the two chains, and the one of them that moves between p and q
pub record Plan : Type 0 where
  pub gives : ℕ
  pub p : ℕ
  pub q : ℕ
  pub from_source : List Session
  pub from_destination : List Session
  pub moving : List Session

-- w is free at both ends, so none moves
abbrev pub direct : ℕ → Plan
direct w = record { gives = w; p = 0; q = 0; from_source = []; from_destination = []; moving = [] }

-- es from the source and fs from the destination: the source chain moves if it is no longer than the other
abbrev pub shorter : ℕ → ℕ → List Session → List Session → Bool → Plan
shorter p q es fs true = record { gives = q; p = p; q = q; from_source = es; from_destination = fs; moving = es }
shorter p q es fs false = record { gives = p; p = p; q = q; from_source = es; from_destination = fs; moving = fs }

-- p is free out of a and q into b; neither chain has 2 G sessions
abbrev pub exchange : (ℕ → ℕ) → List Session → ℕ → ℕ → ℕ → ℕ → ℕ → Plan
exchange g ss G a b p q =
    let f : Session → Option Session = next g ss p q in
    let es : List Session = chain f (2 * G) (first (leaves g q a) ss) in
    let fs : List Session = chain f (2 * G) (first (enters g p b) ss) in
    shorter p q es fs (nat_le (length es) (length fs))

-- from group a to group b, with W wavelengths and G groups
abbrev pub plan : (ℕ → ℕ) → List Session → ℕ → ℕ → ℕ → ℕ → Plan
plan g ss W G a b =
    let free_out : ℕ → Bool = λ w. not (lit_out g ss a w) in
    let free_into : ℕ → Bool = λ w. not (lit_into g ss b w) in
    let w : ℕ = lowest (λ v. free_out v && free_into v) W in
    elim (nat_lt w W) [ true ↦ direct w | false ↦ exchange g ss G a b (lowest free_out W) (lowest free_into W) ]

-- from site s to site d
abbrev pub planned : Parts → List Session → ℕ → ℕ → Plan
planned L ss s d = plan L.group ss L.wavelengths L.plant_groups (L.group s) (L.group d)

abbrev pub swap : ℕ → ℕ → ℕ → ℕ
swap p q w = cond (w == p) q (cond (w == q) p w)

abbrev pub moved : ℕ → ℕ → Session → Session
moved p q s = record { number = s.number; source = s.source; destination = s.destination; wavelength = swap p q s.wavelength }

-- is s one of the chain?
abbrev pub among : List Session → Session → Bool
among es s = any (bears s.number) es

abbrev pub move : Plan → Session → Session
move P s = cond (among P.moving s) (moved P.p P.q s) s
