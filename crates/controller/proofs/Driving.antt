-- A chain changes over, and then one order more is put to the plant.
use Rattle.std.proofs.Common.{◌≡◌, List, [], ◌∷◌, ◌++◌, Ok, Err, sym, ap, ◌∙◌}
use Rattle.plant.specs.declared.refusal.PlantRefusal.{PlantRefusal}
use Rattle.plant.specs.Switch.{Switch}
use Rattle.plant.specs.Orders.{Order, after, answer_to_all, until_refused}
use Rattle.plant.proofs.Carrying.{single, in_turn, cut_short}

module _ (t u : Switch) (xs : List Order) (o : Order) (h : u ≡ until_refused t xs) where
  pub change_refused : (x : PlantRefusal) → Err x ≡ answer_to_all t xs → u ≡ until_refused t (xs ++ (o ∷ []))
  change_refused x e = h ∙ sym (cut_short t xs (o ∷ []) x (sym e)).1

  pub change_done : {z : Unit {0}} (v : Switch) → Ok z ≡ answer_to_all t xs → v ≡ after u o → v ≡ until_refused t (xs ++ (o ∷ []))
  change_done v e d = d ∙ (ap (λ (s : Switch). after s o) h ∙ ((single (until_refused t xs) o).1 ∙ sym (in_turn t xs (o ∷ []) (sym e)).after))
