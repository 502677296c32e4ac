-- Carrying out a list of orders: one order, a refusal, two lists in turn, and a list that is accepted throughout.
use Rattle.std.proofs.Common.{◌≡◌, ℕ, ◌⊎◌, List, [], ◌∷◌, ◌++◌, reverse, is_ok, Some, None, Ok, Err, Result, sym, refl, ap, ◌∙◌, subst, inl, inr, arith}
use mathlib.Core.List.{reverse-append}
use Rattle.std.proofs.lemmas.Bool.{cond-true, cond-false}
use Rattle.plant.specs.declared.refusal.PlantRefusal.{PlantRefusal}
use Rattle.plant.specs.declared.change_over.Retuning.{Retuning}
use Rattle.plant.specs.declared.lightpath.Lightpath.{Lightpath}
use Rattle.plant.specs.declared.slip.Slip.{Slip}
use Rattle.plant.specs.Switch.{Switch, tuned}
use Rattle.plant.specs.Slips.{slip_for}
use Rattle.plant.specs.Orders.{Order, darken, light, answer_to, after, AllAccepted, after_all, answer_to_all, until_refused, darkening, relighting, onward, backwards, change_over}

abbrev Reply : Type 0
Reply = Result (Unit {0}) PlantRefusal

-- the same answer and the same plant come of both
pub record Alike (t : Switch) (os : List Order) (u : Switch) (ps : List Order) : Type 0 where
  pub answer : answer_to_all t os ≡ answer_to_all u ps
  pub after : until_refused t os ≡ until_refused u ps

-- a refusal keeps the plant
pub unchanged : (t : Switch) (o : Order) (x : PlantRefusal) → answer_to t o ≡ Err x → after t o ≡ t
unchanged t (darken w a b) x e = λ i. record { waves = t.waves; groups = t.groups; hears = cond-false _ (tuned t.hears w b None) t.hears (ap is_ok e) i }
unchanged t (light w a b) x e = λ i. record { waves = t.waves; groups = t.groups; hears = cond-false _ (tuned t.hears w b (Some a)) t.hears (ap is_ok e) i }

-- an accepted order, and then the rest
pub goes_on : (t : Switch) (o : Order) (os : List Order) → answer_to t o ≡ Ok tt → Alike t (o ∷ os) (after t o) os
goes_on t o os e = record { answer = cond-true _ _ _ (ap is_ok e); after = cond-true _ _ _ (ap is_ok e) }

-- a refused order ends the list, and its plant is that after the order too
pub stops : (t : Switch) (o : Order) (os : List Order) (x : PlantRefusal) → answer_to t o ≡ Err x → (answer_to_all t (o ∷ os) ≡ Err x) × (until_refused t (o ∷ os) ≡ after t o)
stops t o os x e = (cond-false _ _ _ (ap is_ok e) ∙ e, cond-false _ _ _ (ap is_ok e) ∙ sym (unchanged t o x e))

pub outcome : (r : Reply) → (r ≡ Ok tt) ⊎ ((x : PlantRefusal) × (r ≡ Err x))
outcome (Ok u) = inl refl
outcome (Err x) = inr (x, refl)

pub not_ok : (x : PlantRefusal) → ◌≡◌ {A = Reply} (Err x) (Ok tt) → ⊥
not_ok x e = let z : ◌≡◌ {A = ℕ} 0 1 = cc in omega arith

-- one order alone
pub single : (t : Switch) (o : Order) → (answer_to t o ≡ answer_to_all t (o ∷ [])) × (after t o ≡ until_refused t (o ∷ []))
single t o = elim (outcome (answer_to t o)) [
  | inl e ↦ (e ∙ sym (goes_on t o [] e).answer, sym (goes_on t o [] e).after)
  | inr (x, e) ↦ (e ∙ sym (stops t o [] x e).0, sym (stops t o [] x e).1)
]

-- one list, and then another
pub in_turn : (t : Switch) (xs ys : List Order) → answer_to_all t xs ≡ Ok tt → Alike t (xs ++ ys) (until_refused t xs) ys
in_turn t [] ys e = record { answer = refl; after = refl }
in_turn t (o ∷ xs) ys e = elim (outcome (answer_to t o)) [
  | inl h ↦
      (let g = goes_on t o xs h in
      let k = goes_on t o (xs ++ ys) h in
      let r = in_turn (after t o) xs ys (sym g.answer ∙ e) in
      record {
        answer = k.answer ∙ r.answer ∙ ap (λ (u : Switch). answer_to_all u ys) (sym g.after);
        after = k.after ∙ r.after ∙ ap (λ (u : Switch). until_refused u ys) (sym g.after);
      })
  | inr (x, h) ↦ absurd (not_ok x (sym (stops t o xs x h).0 ∙ e))
]

-- a refusal in the first list
pub cut_short : (t : Switch) (xs ys : List Order) (x : PlantRefusal) → answer_to_all t xs ≡ Err x → (answer_to_all t (xs ++ ys) ≡ Err x) × (until_refused t (xs ++ ys) ≡ until_refused t xs)
cut_short t [] ys x e = absurd (not_ok x (sym e))
cut_short t (o ∷ xs) ys x e = elim (outcome (answer_to t o)) [
  | inl h ↦
      (let g = goes_on t o xs h in
      let k = goes_on t o (xs ++ ys) h in
      let r = cut_short (after t o) xs ys x (sym g.answer ∙ e) in
      (k.answer ∙ r.0, k.after ∙ r.1 ∙ sym g.after))
  | inr (y, h) ↦
      (let s = stops t o xs y h in
      let u = stops t o (xs ++ ys) y h in
      (u.0 ∙ sym s.0 ∙ e, u.1 ∙ sym s.1))
]

-- accepted throughout: the answer is so, and the plant is as all the orders say
pub accepted_throughout : (t : Switch) (os : List Order) → AllAccepted t os → (answer_to_all t os ≡ Ok tt) × (until_refused t os ≡ after_all t os)
accepted_throughout t [] h = (refl, refl)
accepted_throughout t (o ∷ os) h =
    let g = goes_on t o os h.0 in
    let r = accepted_throughout (after t o) os h.1 in
    (g.answer ∙ r.0, g.after ∙ r.1)

pub accepted_answer : (t : Switch) (os : List Order) → AllAccepted t os → answer_to_all t os ≡ Ok tt
accepted_answer t os h = (accepted_throughout t os h).0

pub accepted_after : (t : Switch) (os : List Order) → AllAccepted t os → until_refused t os ≡ after_all t os
accepted_after t os h = (accepted_throughout t os h).1

-- the orders of a chain begin at its last lightpath
pub begins_last : (chain before : List Retuning) (last : Retuning) → chain ≡ before ++ (last ∷ []) → change_over chain ≡ darkening last ∷ onward last (reverse before)
begins_last chain before last e = ap change_over e ∙ ap backwards (reverse-append before (last ∷ []))

-- what a taking down handed out, or why it was refused
pub handed_out : (r : Reply) (p : Lightpath) (s : Slip) → Ok s ≡ slip_for r p → (r ≡ Ok tt) × (s ≡ record { path = p })
handed_out (Ok u) p s e = (refl, cc)
handed_out (Err x) p s e = absurd (let z : ◌≡◌ {A = ℕ} 0 1 = cc in omega arith)

pub turned_down : (r : Reply) (p : Lightpath) (x : PlantRefusal) → Err x ≡ slip_for r p → r ≡ Err x
turned_down (Ok u) p x e = absurd (let z : ◌≡◌ {A = ℕ} 0 1 = cc in omega arith)
turned_down (Err y) p x e = cc

-- the two orders of a turn
abbrev pub turn_of : Retuning → Retuning → List Order
turn_of dark next = darkening next ∷ (relighting dark ∷ [])

-- a turn, where `next` stands last of those that are left
module _ (t t1 u : Switch) (dark next : Retuning) (left rest : List Retuning) (ps : List Order) (last : left ≡ rest ++ (next ∷ [])) (l : Alike t (onward dark (reverse left)) u ps) where
  opened : Alike t (onward dark (next ∷ reverse rest)) u ps
  opened = subst (λ (xs : List Retuning). Alike t (onward dark xs) u ps) (ap reverse last ∙ reverse-append rest (next ∷ [])) l

  -- after it the same is left to come of the rest
  pub turned : answer_to_all t (turn_of dark next) ≡ Ok tt → t1 ≡ until_refused t (turn_of dark next) → Alike t1 (onward next (reverse rest)) u ps
  turned e h =
      let k = in_turn t (turn_of dark next) (onward next (reverse rest)) e in
      record {
        answer = ap (λ (x : Switch). answer_to_all x (onward next (reverse rest))) h ∙ sym k.answer ∙ opened.answer;
        after = ap (λ (x : Switch). until_refused x (onward next (reverse rest))) h ∙ sym k.after ∙ opened.after;
      }

  -- where it is refused, it ends the whole
  pub broken_off : (x : PlantRefusal) → answer_to_all t (turn_of dark next) ≡ Err x → t1 ≡ until_refused t (turn_of dark next) → (Err x ≡ answer_to_all u ps) × (t1 ≡ until_refused u ps)
  broken_off x e h =
      let k = cut_short t (turn_of dark next) (onward next (reverse rest)) x e in
      (sym k.0 ∙ opened.answer, h ∙ sym k.1 ∙ opened.after)
