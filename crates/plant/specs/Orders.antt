-- The orders by which a chain changes over, and what carrying orders out does to a plant.
use Rattle.std.specs.Prelude.{◌≡◌, ℕ, cond, List, [], ◌∷◌, reverse, is_ok, Ok, Result}
use Rattle.plant.specs.declared.refusal.PlantRefusal.{PlantRefusal}
use Rattle.plant.specs.declared.change_over.Retuning.{Retuning}
use Rattle.plant.specs.Switch.{Switch, light_answer, darken_answer, lit_after, dark_after}

-- wavelength, source group, destination group
pub data Order : Type 0 where
  darken : ℕ → ℕ → ℕ → Order
  light : ℕ → ℕ → ℕ → Order

abbrev pub answer_to : Switch → Order → Result (Unit {0}) PlantRefusal
answer_to t (darken w a b) = darken_answer t w a b
answer_to t (light w a b) = light_answer t w a b

abbrev pub after : Switch → Order → Switch
after t (darken w a b) = dark_after t w a b
after t (light w a b) = lit_after t w a b

-- each order in turn is one that the plant accepts
abbrev pub AllAccepted : Switch → List Order → Type 0
AllAccepted t [] = Unit {0}
AllAccepted t (o ∷ os) = (answer_to t o ≡ Ok tt) × AllAccepted (after t o) os

-- the plant after all the orders
abbrev pub after_all : Switch → List Order → Switch
after_all t [] = t
after_all t (o ∷ os) = after_all (after t o) os

-- the first refusal, or accepted; what follows a refusal is not put to the plant
abbrev pub answer_to_all : Switch → List Order → Result (Unit {0}) PlantRefusal
answer_to_all t [] = Ok tt
answer_to_all t (o ∷ os) = cond (is_ok (answer_to t o)) (answer_to_all (after t o) os) (answer_to t o)

-- the plant after the orders up to the first refusal
abbrev pub until_refused : Switch → List Order → Switch
until_refused t [] = t
until_refused t (o ∷ os) = cond (is_ok (answer_to t o)) (until_refused (after t o) os) t

abbrev pub darkening : Retuning → Order
darkening e = darken e.path.wavelength e.path.source e.path.destination

abbrev pub relighting : Retuning → Order
relighting e = light e.onto e.path.source e.path.destination

-- what is left once e is dark: the list has those before it in the chain, the nearest first;
-- each is darkened before the one after it is lit again
abbrev pub onward : Retuning → List Retuning → List Order
onward e [] = relighting e ∷ []
onward e (f ∷ fs) = darkening f ∷ (relighting e ∷ onward f fs)

abbrev pub backwards : List Retuning → List Order
backwards [] = []
backwards (e ∷ es) = darkening e ∷ onward e es

-- the orders of a whole chain, which begin at its last lightpath
abbrev pub change_over : List Retuning → List Order
change_over chain = backwards (reverse chain)
