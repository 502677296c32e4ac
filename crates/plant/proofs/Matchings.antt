-- Whatever is put to a plant, what is lit on a wavelength stays a matching.
use Rattle.std.proofs.Common.{◌≡◌, ℕ, ◌<◌, true, false, ◌&&◌, eqb, List, [], ◌∷◌, is_some, is_ok, Some, None, Option, sym, refl, ap, ◌∙◌, subst, inl, inr, arith}
use Rattle.std.proofs.lemmas.Bool.{eq-eqb, cond-true, cond-false, cond_both, false≢true}
use Rattle.plant.specs.Orders.{Order, light, darken, answer_to, after, until_refused}
use Rattle.plant.specs.Switch.{Switch, Matching, first, is_from, tuned}
use Rattle.plant.proofs.Answers.{lightable, put, lit, darkened}
use Rattle.plant.proofs.Carrying.{outcome, unchanged}
use Rattle.plant.proofs.Cells.{same_or_other, same_test}
use Rattle.plant.proofs.First.{none_passes}

module _ (t : Switch) (m : Matching t) (w b : ℕ) where
  here : (s : Option ℕ) (x y : ℕ) → (x ≡ w) × (y ≡ b) → tuned t.hears w b s x y ≡ s
  here s x y e = cond-true _ _ _ (same_test x w y b e)

  there : (s : Option ℕ) (x y : ℕ) → (eqb x w && eqb y b) ≡ false → tuned t.hears w b s x y ≡ t.hears x y
  there s x y f = cond-false _ _ _ f

  -- a source that no group hears yet is heard at b
  pub joined : (a : ℕ) → w < t.waves → b < t.groups → first (λ y. is_from (t.hears w y) a) t.groups ≡ None → Matching (put t w b (Some a))
  joined a hw hb unsteered = record { one = one; inside = inside } where
    unheard : (c : ℕ) → t.hears w c ≡ Some a → ⊥
    unheard c e =
        let h = m.inside w c (ap is_some e) in
        false≢true (sym (none_passes _ _ unsteered c h.1) ∙ ap (λ (o : Option ℕ). is_from o a) e ∙ eq-eqb a a refl)

    -- what another source is at a place
    same_source : (x y : ℕ) (d : ℕ) → (x ≡ w) × (y ≡ b) → tuned t.hears w b (Some a) x y ≡ Some d → d ≡ a
    same_source x y d s e = let k : Some d ≡ Some a = sym e ∙ here (Some a) x y s in cc

    one : (x d y z : ℕ) → tuned t.hears w b (Some a) x y ≡ Some d → tuned t.hears w b (Some a) x z ≡ Some d → y ≡ z
    one x d y z e f = elim (same_or_other x w y b) [
      | inl s ↦ elim (same_or_other x w z b) [
        | inl r ↦ (s.1 ∙ sym r.1)
        | inr (o, n) ↦ absurd (unheard z (ap (λ (k : ℕ). t.hears k z) (sym s.0) ∙ sym (there (Some a) x z n) ∙ f ∙ ap Some (same_source x y d s e)))
      ]
      | inr (o, n) ↦ elim (same_or_other x w z b) [
        | inl r ↦ absurd (unheard y (ap (λ (k : ℕ). t.hears k y) (sym r.0) ∙ sym (there (Some a) x y n) ∙ e ∙ ap Some (same_source x z d r f)))
        | inr (p, q) ↦ m.one x d y z (sym (there (Some a) x y n) ∙ e) (sym (there (Some a) x z q) ∙ f)
      ]
    ]

    inside : (x y : ℕ) → is_some (tuned t.hears w b (Some a) x y) ≡ true → (x < t.waves) × (y < t.groups)
    inside x y e = elim (same_or_other x w y b) [
      | inl s ↦ (omega (arith, s.0, hw), omega (arith, s.1, hb))
      | inr (o, n) ↦ m.inside x y (sym (ap is_some (there (Some a) x y n)) ∙ e)
    ]

  pub parted : Matching (put t w b None)
  parted = record { one = one; inside = inside } where
    old : (x y : ℕ) (d : ℕ) → tuned t.hears w b None x y ≡ Some d → t.hears x y ≡ Some d
    old x y d e = elim (same_or_other x w y b) [
      | inl s ↦ absurd (let k : ◌≡◌ {A = Option ℕ} None (Some d) = sym (here None x y s) ∙ e in let z : ◌≡◌ {A = ℕ} 0 1 = cc in omega arith)
      | inr (o, n) ↦ (sym (there None x y n) ∙ e)
    ]

    one : (x d y z : ℕ) → tuned t.hears w b None x y ≡ Some d → tuned t.hears w b None x z ≡ Some d → y ≡ z
    one x d y z e f = m.one x d y z (old x y d e) (old x z d f)

    inside : (x y : ℕ) → is_some (tuned t.hears w b None x y) ≡ true → (x < t.waves) × (y < t.groups)
    inside x y e = elim (same_or_other x w y b) [
      | inl s ↦ absurd (false≢true (sym (ap is_some (here None x y s)) ∙ e))
      | inr (o, n) ↦ m.inside x y (sym (ap is_some (there None x y n)) ∙ e)
    ]

pub order_matching : (t : Switch) (o : Order) → Matching t → Matching (after t o)
order_matching t (light w a b) m = elim (outcome (answer_to t (light w a b))) [
  | inl e ↦ (let able = lightable t w a b e in subst Matching (lit t w a b e) (joined t m w b a able.wave able.destination able.unsteered))
  | inr (x, e) ↦ subst Matching (sym (unchanged t (light w a b) x e)) m
]
order_matching t (darken w a b) m = elim (outcome (answer_to t (darken w a b))) [
  | inl e ↦ subst Matching (darkened t w a b e) (parted t m w b)
  | inr (x, e) ↦ subst Matching (sym (unchanged t (darken w a b) x e)) m
]

pub stays_matching : (t : Switch) (os : List Order) → Matching t → Matching (until_refused t os)
stays_matching t [] m = m
stays_matching t (o ∷ os) m = cond_both (is_ok (answer_to t o)) _ _ Matching (λ _. stays_matching (after t o) os (order_matching t o m)) (λ _. m)
