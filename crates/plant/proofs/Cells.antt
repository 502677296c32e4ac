-- A cell of a table in rows of k after a write, and what a byte names.
use Rattle.std.proofs.Common.{◌≡◌, ℕ, ◌+◌, ◌*◌, ◌/◌, ◌%◌, ◌<◌, true, false, ◌&&◌, eqb, ◌≢◌, ◌⊎◌, List, length, get_or, set, Some, None, Option, sym, refl, ap, ◌∙◌, inl, inr, arith, get_or-set_other, get_or-set_same}
use Rattle.std.proofs.lemmas.Nat.{div-mul-add, mod-mul-add}
use Rattle.std.proofs.lemmas.Bool.{eq-eqb, ne_eqb, cases_eq, and_from, and_left, and_right, cond-true, cond-false}
use Rattle.plant.specs.Cells.{cell, named, coded}

-- the same place of a table, or another
pub same_or_other : (x w y i : ℕ) → ((x ≡ w) × (y ≡ i)) ⊎ (((x ≡ w) × (y ≡ i) → ⊥) × ((eqb x w && eqb y i) ≡ false))
same_or_other x w y i = elim (cases_eq x w) [
  | inl e ↦ elim (cases_eq y i) [
    | inl f ↦ inl (e, f)
    | inr f ↦ inr ((λ s. f s.1), and_right _ _ (ne_eqb y i f))
  ]
  | inr e ↦ inr ((λ s. e s.0), and_left _ _ (ne_eqb x w e))
]

pub same_test : (x w y i : ℕ) → (x ≡ w) × (y ≡ i) → (eqb x w && eqb y i) ≡ true
same_test x w y i s = and_from _ _ (eq-eqb x w s.0) (eq-eqb y i s.1)

module _ (k : ℕ) (bs : List ℕ) (w i v : ℕ) (hi : i < k) (long : w * k + i < length bs) where
  pub cell_same : (x y : ℕ) → (x ≡ w) × (y ≡ i) → cell k (set bs (w * k + i) v) x y ≡ v
  cell_same x y s =
      ap (λ (n : ℕ). get_or (set bs (w * k + i) v) n 0) (ap (λ (n : ℕ). n * k + y) s.0 ∙ ap (λ (n : ℕ). w * k + n) s.1)
      ∙ get_or-set_same bs (w * k + i) v 0 long

  pub cell_other : (x y : ℕ) → y < k → ((x ≡ w) × (y ≡ i) → ⊥) → cell k (set bs (w * k + i) v) x y ≡ cell k bs x y
  cell_other x y hy nay =
      let apart : x * k + y ≢ w * k + i =
      λ e. nay (sym (div-mul-add x k y hy) ∙ ap (λ (n : ℕ). n / k) e ∙ div-mul-add w k i hi, sym (mod-mul-add x k y hy) ∙ ap (λ (n : ℕ). n % k) e ∙ mod-mul-add w k i hi) in
      get_or-set_other bs (w * k + i) (x * k + y) v 0 apart

pub named_coded : (o : Option ℕ) → named (coded o) ≡ o
named_coded None = refl
named_coded (Some g) = cond-false _ _ _ (ne_eqb (g + 1) 0 (λ e. omega arith)) ∙ ap Some (omega arith)

pub coded_named : (byte : ℕ) → coded (named byte) ≡ byte
coded_named byte = elim (cases_eq byte 0) [
  | inl e ↦ (ap coded (cond-true _ _ _ (eq-eqb byte 0 e)) ∙ sym e)
  | inr n ↦ (ap coded (cond-false _ _ _ (ne_eqb byte 0 n)) ∙ omega arith)
]
