-- Orders over what a plant hears alone, and that a plant of these counts then accepts them.
use Rattle.std.proofs.Common.{◌≡◌, ℕ, ◌<◌, ◌≤◌, cond, List, [], ◌∷◌, length, is_ok, Some, None, Ok, Option, sym, refl, ap, ◌∙◌, subst}
use Rattle.std.proofs.lemmas.Bool.{lt-ltb, eq-eqb}
use Rattle.plant.specs.Switch.{Switch, is_from, tuned, light_answer, darken_answer}
use Rattle.plant.specs.Orders.{answer_to, after}
use Rattle.plant.proofs.Answers.{not_from}
use Rattle.plant.proofs.First.{first_none}
use Rattle.reckoning.specs.declared.session.Session.{Session}
use Rattle.reckoning.specs.declared.order.Order.{Order}
use Rattle.reckoning.specs.declared.order.Kind.{Kind}
use Rattle.reckoning.specs.declared.order.Kind.TheVariants.{Darken, Light}
use Rattle.reckoning.specs.Laws.{put_as, put, darkened, CarriedOut}

-- by wavelength and destination group
abbrev pub Hears : Type 0
Hears = ℕ → ℕ → Option ℕ

-- the sessions with P are heard, and nothing else; g gives the group of a site
pub record Carrying (g : ℕ → ℕ) (P : Session → Type 0) (hears : Hears) : Type 0 where
  pub each : (s : Session) → P s → hears s.wavelength (g s.destination) ≡ Some (g s.source)
  pub nothing_else : (w b a : ℕ) → hears w b ≡ Some a → (s : Session) × P s × (s.wavelength ≡ w) × (g s.destination ≡ b) × (g s.source ≡ a)

abbrev pub Accepts : ℕ → ℕ → Hears → Kind → ℕ → ℕ → ℕ → Type 0
Accepts W G hears Darken w a b = (w < W) × (a < G) × (b < G) × (hears w b ≡ Some a)
Accepts W G hears Light w a b = (w < W) × (a < G) × (b < G) × ((y : ℕ) → hears w y ≡ Some a → ⊥) × (hears w b ≡ None)

abbrev pub obeyed : Hears → Kind → ℕ → ℕ → ℕ → Hears
obeyed hears Darken w a b = tuned hears w b None
obeyed hears Light w a b = tuned hears w b (Some a)

-- as CarriedOut, over what is heard
abbrev pub Led : ℕ → ℕ → (Hears → Type 0) → Hears → List ℕ → List Order → Type 0
Led W G End hears ns [] = End hears
Led W G End hears ns (o ∷ os) =
    Accepts W G hears o.kind o.wavelength o.source o.destination × (length (darkened o.kind o.session ns) ≤ 2)
    × Led W G End (obeyed hears o.kind o.wavelength o.source o.destination) (darkened o.kind o.session ns) os

-- what an accepted order does to a plant
pub record Took (t : Switch) (k : Kind) (w a b : ℕ) : Type 0 where
  pub answer : answer_to t (put_as k w a b) ≡ Ok tt
  pub hears : (after t (put_as k w a b)).hears ≡ obeyed t.hears k w a b
  pub waves : (after t (put_as k w a b)).waves ≡ t.waves
  pub groups : (after t (put_as k w a b)).groups ≡ t.groups

may_darken : (t : Switch) (w a b : ℕ) → Accepts t.waves t.groups t.hears Darken w a b → darken_answer t w a b ≡ Ok tt
unfolding darken_answer
may_darken t w a b h = rw (lt-ltb _ _ h.0, lt-ltb _ _ h.1, lt-ltb _ _ h.2, h.3, eq-eqb a a refl)

may_light : (t : Switch) (w a b : ℕ) → Accepts t.waves t.groups t.hears Light w a b → light_answer t w a b ≡ Ok tt
unfolding light_answer
may_light t w a b h =
    let unsteered = first_none (λ y. is_from (t.hears w y) a) t.groups (λ y _. not_from (t.hears w y) a (h.3 y)) in
    rw (lt-ltb _ _ h.0, lt-ltb _ _ h.1, lt-ltb _ _ h.2, unsteered, h.4)

takes : (t : Switch) (k : Kind) (w a b : ℕ) → Accepts t.waves t.groups t.hears k w a b → Took t k w a b
takes t Darken w a b h =
    let e = may_darken t w a b h in
    record { answer = e; hears = ap (λ r. cond (is_ok r) (tuned t.hears w b None) t.hears) e; waves = refl; groups = refl }
takes t Light w a b h =
    let e = may_light t w a b h in
    record { answer = e; hears = ap (λ r. cond (is_ok r) (tuned t.hears w b (Some a)) t.hears) e; waves = refl; groups = refl }

-- a plant of the counts W and G
pub put_to : (W G : ℕ) (End : Hears → Type 0) (Last : Switch → Type 0) → ((u : Switch) → u.waves ≡ W → u.groups ≡ G → End u.hears → Last u) →
    (os : List Order) (t : Switch) (ns : List ℕ) → t.waves ≡ W → t.groups ≡ G → Led W G End t.hears ns os → CarriedOut Last t ns os
put_to W G End Last k [] t ns w g h = k t w g h
put_to W G End Last k (o ∷ os) t ns w g h =
    let took = takes t o.kind o.wavelength o.source o.destination
    (subst (λ (v : ℕ). Accepts v t.groups t.hears o.kind o.wavelength o.source o.destination) (sym w)
    (subst (λ (v : ℕ). Accepts W v t.hears o.kind o.wavelength o.source o.destination) (sym g) h.0)) in (
      took.answer,
      h.1,
      put_to W G End Last k os (after t (put o)) (darkened o.kind o.session ns) (took.waves ∙ w) (took.groups ∙ g)
          (subst (λ (x : Hears). Led W G End x (darkened o.kind o.session ns) os) (sym took.hears) h.2),
    )
