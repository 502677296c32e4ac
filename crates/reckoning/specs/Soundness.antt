-- Soundness as a test, for an invariant that a field can hold.
use Rattle.std.specs.Prelude.{◌≡◌, ℕ, Bool, true, not, ◌&&◌, ◌||◌, List, [], ◌∷◌, ◌==◌, nat_lt}
use Rattle.reckoning.specs.declared.session.Session.{Session}
use Rattle.reckoning.specs.Lists.{any}
use Rattle.reckoning.specs.Parts.{Parts}
use Rattle.reckoning.specs.Laws.{Sound}

-- the two bear one number, or share a wavelength and a group
abbrev pub clash : (ℕ → ℕ) → Session → Session → Bool
clash g s t =
    (s.number == t.number)
    || (s.wavelength == t.wavelength && (g s.source == g t.source || g s.destination == g t.destination))

-- on a wavelength and between groups of the plant, from one site to another
abbrev pub placed : Parts → Session → Bool
placed L s =
    nat_lt s.wavelength L.wavelengths
    && (nat_lt (L.group s.source) L.plant_groups && (nat_lt (L.group s.destination) L.plant_groups
    && (nat_lt s.source L.sites && (nat_lt s.destination L.sites && not (s.source == s.destination)))))

unfoldable pub sound_test : Parts → List Session → Bool
sound_test L [] = true
sound_test L (s ∷ ss) = placed L s && (not (any (clash L.group s) ss) && sound_test L ss)

abbrev pub SoundTested : Type 0
SoundTested = (L : Parts) (ss : List Session) → (sound_test L ss ≡ true → Sound L ss) × (Sound L ss → sound_test L ss ≡ true)
