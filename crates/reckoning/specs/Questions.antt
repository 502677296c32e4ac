-- The questions of each call, in order. The first that fails answers, by its number.
use Rattle.std.specs.Prelude.{ℕ, ◌-◌, ◌*◌, Bool, cond, not, ◌&&◌, List, [], ◌∷◌, ◌++◌, length, ◌==◌, nat_le, nat_lt}
use Rattle.reckoning.specs.declared.session.Session.{Session}
use Rattle.reckoning.specs.Parts.{Parts}
use Rattle.reckoning.specs.Standing.{borne, sent, received, up_load, down_load}
use Rattle.reckoning.specs.Plans.{planned}

-- does it hold, and the number answered where it does not
abbrev pub Question : Type 0
Question = Bool × ℕ

-- 0 where all hold
abbrev pub verdict : List Question → ℕ
verdict [] = 0
verdict (q ∷ qs) = cond q.0 (verdict qs) q.1

-- how many places the sheets of a caller have
pub record Room : Type 0 where
  pub orders : ℕ
  pub rows : ℕ

-- ---- what the calls share

-- layout and plant fit
abbrev pub fit : Parts → List Question
fit L = (L.groups == L.plant_groups && nat_le 1 L.plant_groups, 1) ∷ (L.dark, 2) ∷ []

abbrev pub numbered : Parts → ℕ → List Question
numbered L n = fit L ++ ((nat_le 1 n, 11) ∷ [])

-- a session can be new under this number, from s to d
abbrev pub ends : Parts → List Session → ℕ → ℕ → ℕ → List Question
ends L ss n s d =
    numbered L n ++ ((nat_lt s L.sites && nat_lt d L.sites, 12) ∷ (not (s == d), 13) ∷ (not (borne ss n), 14) ∷ [])

abbrev pub bearer : Parts → List Session → ℕ → List Question
bearer L ss n = numbered L n ++ ((borne ss n, 15) ∷ [])

-- so many orders have room
abbrev pub order_room : ℕ → Room → Question
order_room n room = (nat_le n room.orders, 16)

abbrev pub walk_room : Parts → List ℕ → Question
walk_room L walk = (nat_le (2 * L.plant_groups - 2) (length walk), 17)

-- a transmitter is free at s, and a receiver at d
abbrev pub ports : Parts → List Session → ℕ → ℕ → List Question
ports L ss s d = (nat_lt (sent ss s) (L.ports s), 21) ∷ (nat_lt (received ss d) (L.ports d), 22) ∷ []

-- a wavelength is free out of the group of s, and one into the group of d
abbrev pub loads : Parts → List Session → ℕ → ℕ → List Question
loads L ss s d =
    (nat_lt (up_load L.group ss L.wavelengths (L.group s)) L.wavelengths, 23)
    ∷ (nat_lt (down_load L.group ss L.wavelengths (L.group d)) L.wavelengths, 24)
    ∷ []

-- ---- the calls

-- before an admission's questions on wavelengths
abbrev pub admit_before : Parts → Room → List Session → List ℕ → ℕ → ℕ → ℕ → List Question
admit_before L room ss walk n s d =
    ends L ss n s d ++ (order_room (2 * L.plant_groups - 1) room ∷ walk_room L walk ∷ ports L ss s d)

abbrev pub admit_questions : Parts → Room → List Session → List ℕ → ℕ → ℕ → ℕ → ℕ → List Question
admit_questions L room ss walk n s d limit =
    admit_before L room ss walk n s d ++ (loads L ss s d ++ ((nat_le (length (planned L ss s d).moving) limit, 25) ∷ []))

abbrev pub quote_questions : Parts → List Session → List ℕ → ℕ → ℕ → ℕ → List Question
quote_questions L ss walk n s d = ends L ss n s d ++ (walk_room L walk ∷ (ports L ss s d ++ loads L ss s d))

abbrev pub release_questions : Parts → Room → List Session → ℕ → List Question
release_questions L room ss n = bearer L ss n ++ (order_room 1 room ∷ [])

abbrev pub where_questions : Parts → List Session → ℕ → List Question
where_questions L ss n = bearer L ss n

abbrev pub list_questions : Parts → Room → List Session → List Question
list_questions L room ss = fit L ++ ((nat_le (length ss) room.rows, 18) ∷ [])
