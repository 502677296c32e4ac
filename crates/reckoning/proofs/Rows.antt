-- The rows of a list are the standing sessions, each once, by wavelength and then by source group.
use Rattle.std.proofs.Common.{◌≡◌, ℕ, ◌<◌, List, [], ◌∷◌, length, Some, None, Option, sym, refl, ap, ◌∙◌, subst, inl, inr, arith}
use Rattle.std.specs.List.{range_with_len}
use Rattle.reckoning.specs.declared.session.Session.{Session}
use Rattle.reckoning.specs.Lists.{In, Pairwise, first, flat, as_list}
use Rattle.reckoning.specs.Parts.{Parts}
use Rattle.reckoning.specs.Standing.{leaves}
use Rattle.reckoning.specs.Sheets.{rows_of}
use Rattle.reckoning.specs.Laws.{Sound}
use Rattle.reckoning.specs.Runs.{Before}
use Rattle.reckoning.proofs.Pigeon.{pigeon, in_counting, rising_counting, in_left, in_right, in_either, pairwise_append, pairwise_weaker}
use Rattle.reckoning.proofs.Sessions.{unlike_distinct, first_found, first_hit, leaves_says, leaves_from, same_source}

pub in_flat : {A B : Type 0} (f : A → List B) (x : A) (y : B) (xs : List A) → In x xs → In y (f x) → In y (flat f xs)
in_flat f x y [] i j = absurd i
in_flat {A} {B} f x y (z ∷ xs) (inl e) j = in_left y (f z) (flat f xs) (subst (λ (u : A). In y (f u)) e j)
in_flat f x y (z ∷ xs) (inr i) j = in_right y (f z) (flat f xs) (in_flat f x y xs i j)

pub flat_in : {A B : Type 0} (f : A → List B) (y : B) (xs : List A) → In y (flat f xs) → (x : A) × In x xs × In y (f x)
flat_in f y [] i = absurd i
flat_in f y (z ∷ xs) i =
    elim (in_either y (f z) (flat f xs) i) [ inl h ↦ (z, inl refl, h) | inr h ↦ let r = flat_in f y xs h in (r.0, inr r.1, r.2) ]

-- in order, if what f makes of each is, and of two that are in order
pairwise_flat : {A B : Type 0} (S : A → A → Type 0) (R : B → B → Type 0) (f : A → List B) → ((x : A) → Pairwise R (f x)) → ((x y : A) (u v : B) → S x y → In u (f x) → In v (f y) → R u v) → (xs : List A) → Pairwise S xs → Pairwise R (flat f xs)
pairwise_flat S R f each between [] d = tt
pairwise_flat S R f each between (x ∷ xs) d =
    pairwise_append R (f x) (flat f xs) (each x) (pairwise_flat S R f each between xs d.1)
    (λ u v i j. let r = flat_in f v xs j in between x r.0 u v (d.0 r.0 r.1) i r.2)

in_list : {A : Type 0} (o : Option A) (x : A) → In x (as_list o) → o ≡ Some x
in_list None x i = absurd i
in_list (Some y) x (inl e) = ap Some (sym e)
in_list (Some y) x (inr i) = absurd i

list_in : {A : Type 0} (o : Option A) (x : A) → o ≡ Some x → In x (as_list o)
list_in {A} o x e = subst (λ (u : Option A). In x (as_list u)) (sym e) (inl refl)

pairwise_list : {A : Type 0} (R : A → A → Type 0) (o : Option A) → Pairwise R (as_list o)
pairwise_list R None = tt
pairwise_list R (Some x) = (λ y i. absurd i, tt)

module _ (L : Parts) (ss : List Session) (k : Sound L ss) where
  at : ℕ → ℕ → List Session
  at w a = as_list (first (leaves L.group w a) ss)

  on : ℕ → List Session
  on w = flat (at w) (range_with_len 0 L.plant_groups)

  at_says : (w a : ℕ) (s : Session) → In s (at w a) → In s ss × (s.wavelength ≡ w) × (L.group s.source ≡ a)
  unfolding at
  at_says w a s i =
      let r = first_found (leaves L.group w a) ss s (in_list (first (leaves L.group w a) ss) s i) in
      let l = leaves_says L.group w a s r.1 in
      (r.0, l.0, l.1)

  at_from : (s : Session) → In s ss → In s (at s.wavelength (L.group s.source))
  unfolding at
  at_from s i =
      let w = s.wavelength in
      let a = L.group s.source in
      let r = first_hit (leaves L.group w a) ss s i (leaves_from L.group w a s refl refl) in
      let f = first_found (leaves L.group w a) ss r.0 r.1 in
      let l = leaves_says L.group w a r.0 f.1 in
      list_in (first (leaves L.group w a) ss) s (r.1 ∙ ap Some (same_source L.group ss k.clear r.0 s f.0 i l.0 l.1))

  on_says : (w : ℕ) (s : Session) → In s (on w) → In s ss × (s.wavelength ≡ w)
  unfolding on
  on_says w s i = let r = flat_in (at w) s (range_with_len 0 L.plant_groups) i in let h = at_says w r.0 s r.2 in (h.0, h.1)

  pub row_of : (s : Session) → In s ss → In s (rows_of L ss)
  unfolding at on
  row_of s i =
      let low = k.low s i in
      let grouped = (k.grouped s i).0 in
      in_flat on s.wavelength s (range_with_len 0 L.wavelengths) (in_counting L.wavelengths 0 s.wavelength (omega arith) (omega arith))
      (in_flat (at s.wavelength) (L.group s.source) s (range_with_len 0 L.plant_groups) (in_counting L.plant_groups 0 (L.group s.source) (omega arith) (omega arith)) (at_from s i))

  pub of_row : (s : Session) → In s (rows_of L ss) → In s ss
  unfolding at on
  of_row s i = let r = flat_in on s (range_with_len 0 L.wavelengths) i in (on_says r.0 s r.2).0

  pub rows_sorted : Pairwise (Before L) (rows_of L ss)
  unfolding at on
  rows_sorted =
      pairwise_flat (λ x y. x < y) (Before L) on
      (λ w.
      pairwise_flat (λ x y. x < y) (Before L) (at w) (λ a. pairwise_list (Before L) (first (leaves L.group w a) ss))
      (λ a b s t l i j. let x = at_says w a s i in let y = at_says w b t j in inr (x.1 ∙ sym y.1, omega (arith, x.2, y.2, l)))
      (range_with_len 0 L.plant_groups) (rising_counting L.plant_groups 0))
      (λ v w s t l i j. inl (omega (arith, (on_says v s i).1, (on_says w t j).1, l)))
      (range_with_len 0 L.wavelengths) (rising_counting L.wavelengths 0)

  before_differs : (s t : Session) → Before L s t → s ≡ t → ⊥
  before_differs s t (inl l) e = omega (arith, l, ap (λ (z : Session). z.wavelength) e)
  before_differs s t (inr h) e = omega (arith, h.1, ap (λ (z : Session). L.group z.source) e)

  pub rows_length : length (rows_of L ss) ≡ length ss
  rows_length =
      let distinct_rows = pairwise_weaker (Before L) (λ x y. x ≡ y → ⊥) (rows_of L ss) (λ x y i j. before_differs x y) rows_sorted in
      omega (arith, pigeon (rows_of L ss) ss distinct_rows of_row, pigeon ss (rows_of L ss) (unlike_distinct ss k.unlike) row_of)
