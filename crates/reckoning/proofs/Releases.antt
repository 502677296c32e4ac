-- A release takes away the session of its number, and its order leaves a plant that carries the others.
use Rattle.std.proofs.Common.{◌≡◌, ℕ, ◌+◌, Bool, true, false, cond, not, List, [], ◌∷◌, length, Some, None, Option, sym, refl, ap, ◌∙◌, inl, inr, arith}
use Rattle.std.proofs.lemmas.Bool.{both_ways, eqb-true, eq-eqb, ne_eqb, not-true, not_from_false}
use Rattle.plant.specs.Switch.{Switch}
use Rattle.reckoning.specs.declared.session.Session.{Session}
use Rattle.reckoning.specs.declared.order.Kind.TheVariants.{Darken}
use Rattle.reckoning.specs.Lists.{In, Pairwise, first}
use Rattle.reckoning.specs.Parts.{Parts}
use Rattle.reckoning.specs.Standing.{bears, without}
use Rattle.reckoning.specs.Sheets.{order}
use Rattle.reckoning.specs.Questions.{Room, verdict, release_questions}
use Rattle.reckoning.specs.Calls.{released, Reply, is_admitted, is_released, release_of, release}
use Rattle.reckoning.specs.Laws.{Clear, Unlike, Sound, Carries, CarriedOut, written}
use Rattle.reckoning.proofs.Pigeon.{in_kept, kept_in, pairwise_kept}
use Rattle.reckoning.proofs.Sessions.{first_found, same_destination}
use Rattle.reckoning.proofs.Exchange.{same_number}
use Rattle.reckoning.proofs.Orders.{darken_step}
use Rattle.reckoning.proofs.Admissions.{carrying, carried_out}
use Rattle.reckoning.proofs.Verdicts.{judged_by}

pub sound_without : (L : Parts) (ss : List Session) (n : ℕ) → Sound L ss → Sound L (without ss n)
sound_without L ss n k =
    let p : Session → Bool = λ s. not (bears n s) in
    record {
      clear = pairwise_kept (Clear L.group) p ss k.clear;
      unlike = pairwise_kept Unlike p ss k.unlike;
      low = λ s i. k.low s (in_kept p s ss i).0;
      grouped = λ s i. k.grouped s (in_kept p s ss i).0;
      placed = λ s i. k.placed s (in_kept p s ss i).0;
    }

-- ---- how many are left

without_none : (ss : List Session) (n : ℕ) → ((x : Session) → In x ss → n ≡ x.number → ⊥) → length (without ss n) ≡ length ss
without_none [] n h = refl
without_none (x ∷ ss) n h = grind (arith, h x (inl refl), without_none ss n (λ y i. h y (inr i)))

pub without_one : (ss : List Session) → Pairwise Unlike ss → (s : Session) → In s ss → length (without ss s.number) + 1 ≡ length ss
without_one [] u s i = absurd i
without_one (x ∷ ss) u s (inl e) =
    let n : s.number ≡ x.number = ap (λ (z : Session). z.number) e in
    let left = without_none ss s.number (λ y j h. u.0 y j (sym n ∙ h)) in
    rw (eq-eqb x.number s.number (sym n)) (omega arith)
without_one (x ∷ ss) u s (inr i) =
    let rest = without_one ss u.1 s i in
    rw (ne_eqb x.number s.number (u.0 s i)) (omega arith)

-- ---- the call

module _ (L : Parts) (room : Room) (ss : List Session) (k : Sound L ss) (walk : List ℕ) (n : ℕ) where
  sound_of : (o : Option Session) → Sound L (release_of L ss walk o).after
  sound_of None = k
  sound_of (Some s) = sound_without L ss s.number k

  pub sound_release : Sound L (release L room ss walk n).after
  sound_release = judged_by (λ (r : Reply). Sound L r.after) ss walk (verdict (release_questions L room ss n)) (release_of L ss walk (first (bears n) ss)) (λ _. sound_of (first (bears n) ss)) (λ _ _. k)

  tally_of : (o : Option Session) → ((s : Session) → o ≡ Some s → In s ss) → (length (release_of L ss walk o).after + cond (is_released (release_of L ss walk o).answer) 1 0 ≡ length ss) × (is_admitted (release_of L ss walk o).answer ≡ false)
  tally_of None h = (omega arith, refl)
  tally_of (Some s) h = (without_one ss k.unlike s (h s refl), refl)

  pub release_tally : (length (release L room ss walk n).after + cond (is_released (release L room ss walk n).answer) 1 0 ≡ length ss) × (is_admitted (release L room ss walk n).answer ≡ false)
  release_tally =
      judged_by (λ (r : Reply). (length r.after + cond (is_released r.answer) 1 0 ≡ length ss) × (is_admitted r.answer ≡ false)) ss walk (verdict (release_questions L room ss n)) (release_of L ss walk (first (bears n) ss))
      (λ _. tally_of (first (bears n) ss) (λ s e. (first_found (bears n) ss s e).0)) (λ _ _. (omega arith, refl))

  module _ (t : Switch) (c : Carries L ss t) where
    serves_of : (o : Option Session) → ((s : Session) → o ≡ Some s → In s ss) → CarriedOut (Carries L (release_of L ss walk o).after) t [] (written (release_of L ss walk o).orders)
    serves_of None h = c
    serves_of (Some s) h =
        let i = h s refl in
        carried_out L ss (without ss s.number) (order L.group Darken s ∷ []) t c (
          (k.low s i, (k.grouped s i).0, (k.grouped s i).1, c.each s i),
          omega arith,
          darken_step L.group (λ y. In y ss) (λ y. In y (without ss s.number)) t.hears s
              (λ y j.
              let r = in_kept (λ x. not (bears s.number x)) y ss j in
              (r.0, λ w b. both_ways _ (not-true _ r.1) (eq-eqb y.number s.number (ap (λ (z : Session). z.number) (same_destination L.group ss k.clear y s r.0 i w b)))))
              (λ y j apart. kept_in (λ x. not (bears s.number x)) y ss j (not_from_false _ (ne_eqb y.number s.number (λ e.
              let same : y ≡ s = same_number ss k.unlike y s j i e in
              apart (ap (λ (z : Session). z.wavelength) same) (ap (λ (z : Session). L.group z.destination) same)))))
              (carrying L ss t c),
        )

    pub release_serves : CarriedOut (Carries L (release L room ss walk n).after) t [] (written (release L room ss walk n).orders)
    release_serves =
        judged_by (λ (r : Reply). CarriedOut (Carries L r.after) t [] (written r.orders)) ss walk (verdict (release_questions L room ss n)) (release_of L ss walk (first (bears n) ss))
        (λ _. serves_of (first (bears n) ss) (λ s e. (first_found (bears n) ss s e).0)) (λ _ _. c)

-- ---- the answer

-- what an accepted release says, of the sessions ss, the number n and the wavelength w given up
pub record Released (ss : List Session) (n w : ℕ) (r : Reply) : Type 0 where
  pub gone : Session
  pub stood : In gone ss
  pub number : gone.number ≡ n
  pub wavelength : gone.wavelength ≡ w
  pub after : r.after ≡ without ss n
  pub ordered : length (written r.orders) ≡ 1

module _ (L : Parts) (room : Room) (ss : List Session) (walk : List ℕ) (n w : ℕ) where
  released_of : (o : Option Session) → ((s : Session) → o ≡ Some s → In s ss × (bears n s ≡ true)) → (release_of L ss walk o).answer ≡ released w → Released ss n w (release_of L ss walk o)
  released_of None h a = let no : ⊥ = cc in absurd no
  released_of (Some s) h a =
      let i = h s refl in
      let same : s.number ≡ n = eqb-true _ _ i.1 in
      record { gone = s; stood = i.0; number = same; wavelength = cc; after = ap (without ss) same; ordered = refl }

  pub released_says : (release L room ss walk n).answer ≡ released w → Released ss n w (release L room ss walk n)
  released_says =
      judged_by (λ (r : Reply). r.answer ≡ released w → Released ss n w r) ss walk (verdict (release_questions L room ss n)) (release_of L ss walk (first (bears n) ss))
      (λ _. released_of (first (bears n) ss) (first_found (bears n) ss)) (λ _ _ a. let no : ⊥ = cc in absurd no)
