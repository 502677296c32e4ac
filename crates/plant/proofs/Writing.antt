-- What registers let be heard, and what a write to one does to it.
use Rattle.std.proofs.Common.{◌≡◌, ℕ, ◌+◌, ◌*◌, ◌<◌, ◌≤◌, ◌&&◌, ltb, List, length, drop, set, replicate, is_ok, Some, None, Ok, Option, sym, refl, ap, ◌∙◌, inl, inr, arith, length-append, length-drop, length-set}
use lib.ListN.{length-replicate}
use Rattle.std.proofs.lemmas.Nat.{mul-add-lt}
use Rattle.std.proofs.lemmas.Bool.Decides.{nat_tests}
use Rattle.std.proofs.lemmas.List.{get_or-replicate, get_or_append_left}
use Rattle.std.proofs.lemmas.Bool.{lt-ltb, ltb-true, cases_Bool, and_from, and_parts, cond-true, cond-false, cond_both}
use Rattle.plant.specs.Cells.{cell, named}
use Rattle.plant.specs.Making.{fabric_verdict, granted}
use Rattle.plant.specs.Registers.{register_switch, fabric_switch, served, zeroed}
use Rattle.plant.specs.Switch.{Switch, tuned, dark_switch, light_answer, darken_answer, lit_after, dark_after}
use Rattle.plant.proofs.Answers.{lightable, darkenable, put, lit, darkened}
use Rattle.plant.proofs.Cells.{same_or_other, same_test, cell_same, cell_other, named_coded}

module _ (n g : ℕ) (bs : List ℕ) (w b : ℕ) (hw : w < n) (hb : b < g) where
  -- what is heard at a place in range
  pub heard_at : (register_switch n g bs).hears w b ≡ named (cell g bs w b)
  heard_at = cond-true _ _ _ (and_from _ _ (lt-ltb w n hw) (lt-ltb b g hb))

  module _ (fits : n * g ≤ length bs) (v : ℕ) where
    within : w * g + b < length bs
    within = omega (arith, mul-add-lt w g b n hw hb)

    -- a write changes one place of the switch
    pub written : register_switch n g (set bs (w * g + b) v) ≡ put (register_switch n g bs) w b (named v)
    written =
        let at : (x y : ℕ) → (register_switch n g (set bs (w * g + b) v)).hears x y ≡ tuned (register_switch n g bs).hears w b (named v) x y =
        λ x y. elim (same_or_other x w y b) [
          | inl s ↦
              (cond-true (ltb x n && ltb y g) _ _ (and_from _ _ (ap (λ (k : ℕ). ltb k n) s.0 ∙ lt-ltb w n hw) (ap (λ (k : ℕ). ltb k g) s.1 ∙ lt-ltb b g hb))
              ∙ ap named (cell_same g bs w b v hb within x y s)
              ∙ sym (cond-true _ _ _ (same_test x w y b s)))
          | inr (o, f) ↦
              (inside x y (λ hy. ap named (cell_other g bs w b v hb within x y hy o)) ∙ sym (cond-false _ _ _ f))
        ] in
        λ i. record { waves = n; groups = g; hears = λ x y. at x y i } where
          inside : (x y : ℕ) → (y < g → named (cell g (set bs (w * g + b) v) x y) ≡ named (cell g bs x y))
              → (register_switch n g (set bs (w * g + b) v)).hears x y ≡ (register_switch n g bs).hears x y
          inside x y h = elim (cases_Bool (ltb x n && ltb y g)) [
            | inl t ↦ (cond-true _ _ _ t ∙ h (ltb-true y g (and_parts _ _ t).1) ∙ sym (cond-true _ _ _ t))
            | inr f ↦ (cond-false _ _ _ f ∙ sym (cond-false _ _ _ f))
          ]

-- the registers of a fabric, and an order that it accepts; m and h are the counts that it tells
module _ (n g : ℕ) (bs : List ℕ) (m h : ℕ) (em : m ≡ served n g bs n) (eh : h ≡ served n g bs g) where
  pub told : fabric_switch n g bs ≡ register_switch m h bs
  told = λ i. register_switch (sym em i) (sym eh i) bs

  -- as many other bytes
  pub told_of : (cs : List ℕ) → length cs ≡ length bs → fabric_switch n g cs ≡ register_switch m h cs
  told_of cs e =
      let en : served n g cs n ≡ m = ap (λ (k : ℕ). granted (fabric_verdict n g k) n) e ∙ sym em in
      let eg : served n g cs g ≡ h = ap (λ (k : ℕ). granted (fabric_verdict n g k) g) e ∙ sym eh in
      λ i. register_switch (en i) (eg i) cs

  fits : m * h ≤ length bs
  fits = grind (arith, nat_tests)

  module _ (w a b : ℕ) where
    pub entered : light_answer (fabric_switch n g bs) w a b ≡ Ok tt → fabric_switch n g (set bs (w * h + b) (a + 1)) ≡ lit_after (fabric_switch n g bs) w a b
    entered ok =
        let able = lightable _ w a b (sym (ap (λ (t : Switch). light_answer t w a b) told) ∙ ok) in
        told_of _ (length-set bs (w * h + b) (a + 1))
        ∙ written m h bs w b able.wave able.destination fits (a + 1)
        ∙ ap (put (register_switch m h bs) w b) (named_coded (Some a))
        ∙ ap (λ (t : Switch). put t w b (Some a)) (sym told)
        ∙ lit (fabric_switch n g bs) w a b ok

    pub erased : darken_answer (fabric_switch n g bs) w a b ≡ Ok tt → fabric_switch n g (set bs (w * h + b) 0) ≡ dark_after (fabric_switch n g bs) w a b
    erased ok =
        let able = darkenable _ w a b (sym (ap (λ (t : Switch). darken_answer t w a b) told) ∙ ok) in
        told_of _ (length-set bs (w * h + b) 0)
        ∙ written m h bs w b able.wave able.destination fits 0
        ∙ ap (λ (t : Switch). put t w b None) (sym told)
        ∙ darkened (fabric_switch n g bs) w a b ok

-- registers that were set to 0
module _ (n g : ℕ) (bs : List ℕ) (ok : fabric_verdict n g (length bs) ≡ Ok tt) where
  pub dark_registers : (cs : List ℕ) → cs ≡ zeroed (n * g) bs → fabric_switch n g cs ≡ dark_switch n g
  dark_registers cs e =
      let en : n ≡ served n g bs n = sym (cond-true _ _ _ (ap is_ok ok)) in
      let eg : g ≡ served n g bs g = sym (cond-true _ _ _ (ap is_ok ok)) in
      let as_long : length (zeroed (n * g) bs) ≡ length bs = simp (length-append, length-replicate, length-drop) (omega (arith, fits n g bs n g en eg)) in
      let at : (w b : ℕ) → (register_switch n g (zeroed (n * g) bs)).hears w b ≡ None =
      λ w b. cond_both (ltb w n && ltb b g) _ _ (λ (o : Option ℕ). o ≡ None)
      (λ t.
      let low : w * g + b < n * g = omega (arith, mul-add-lt w g b n (ltb-true _ _ (and_parts _ _ t).0) (ltb-true _ _ (and_parts _ _ t).1)) in
      let low' : w * g + b < length (replicate (n * g) 0) = rw length-replicate low in
      let none : cell g (zeroed (n * g) bs) w b ≡ 0 = get_or_append_left (replicate (n * g) 0) (drop (n * g) bs) 0 (w * g + b) low' ∙ get_or-replicate (n * g) (w * g + b) 0 0 low in
      ap named none)
      (λ f. refl) in
      ap (fabric_switch n g) e ∙ told_of n g bs n g en eg (zeroed (n * g) bs) as_long ∙ (λ i. record { waves = n; groups = g; hears = λ w b. at w b i })
