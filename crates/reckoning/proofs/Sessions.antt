-- What the look-ups of the reckoning find, and its step from session to session.
use Rattle.std.proofs.Common.{◌≡◌, ℕ, ◌<◌, ◌≤◌, Bool, true, false, cond, not, ◌⊎◌, List, [], ◌∷◌, Some, None, Option, count_by, get_or, sym, refl, ap, ◌∙◌, subst, inl, inr, arith, ◌==◌}
use Rattle.std.proofs.lemmas.Option.{none-some, same_Some}
use Rattle.std.specs.List.{range_with_len}
use Rattle.std.proofs.lemmas.Bool.{cond_both, cases_lt, not-true, not-false, eqb-true, eq-eqb, ne_eqb, both_ways, and_parts, and_from}
use Rattle.std.proofs.lemmas.List.Sums.{prefix_len_passes, prefix_len_stops}
use Rattle.std.proofs.lemmas.List.FromFn.{length-range_with_len, get_or-range_with_len}
use Rattle.reckoning.specs.Lists.{In, Pairwise, Distinct, first, any, lowest}
use Rattle.reckoning.specs.declared.session.Session.{Session}
use Rattle.reckoning.specs.Standing.{leaves, enters}
use Rattle.reckoning.specs.Plans.{next}
use Rattle.reckoning.specs.Laws.{Clear, Unlike}
use Rattle.reckoning.proofs.Pigeon.{counting_in, count_all, pairwise_weaker}
use Rattle.reckoning.proofs.Chains.{Injective}

-- a proper edge colouring: g gives the group of a site, below G, and there are W wavelengths
pub record Colouring (g : ℕ → ℕ) (W G : ℕ) (ss : List Session) : Type 0 where
  pub clear : Pairwise (Clear g) ss
  pub unlike : Pairwise Unlike ss
  pub low : (s : Session) → In s ss → s.wavelength < W
  pub grouped : (s : Session) → In s ss → (g s.source < G) × (g s.destination < G)

pub first_found : {A : Type 0} (p : A → Bool) (xs : List A) (x : A) → first p xs ≡ Some x → In x xs × (p x ≡ true)
first_found p [] x e = absurd (none-some x e)
first_found {A} p (y ∷ ys) x e =
    cond_both (p y) (Some y) (first p ys) (λ (o : Option A). o ≡ Some x → In x (y ∷ ys) × (p x ≡ true))
    (λ t d. let s = same_Some y x d in (inl (sym s), subst (λ (z : A). p z ≡ true) s t))
    (λ t d. let r = first_found p ys x d in (inr r.0, r.1))
    e

pub first_hit : {A : Type 0} (p : A → Bool) (xs : List A) (x : A) → In x xs → p x ≡ true → (y : A) × (first p xs ≡ Some y)
first_hit p [] x i t = absurd i
first_hit p (y ∷ ys) x (inl e) t = rw (ap p (sym e) ∙ t) (y, refl)
first_hit {A} p (y ∷ ys) x (inr i) t = cond_both (p y) (Some y) (first p ys) (λ (o : Option A). (z : A) × (o ≡ Some z)) (λ _. (y, refl)) (λ _. first_hit p ys x i t)

pub any_hit : {A : Type 0} (p : A → Bool) (xs : List A) (x : A) → In x xs → p x ≡ true → any p xs ≡ true
any_hit p [] x i t = absurd i
any_hit p (y ∷ ys) x (inl e) t = rw (ap p (sym e) ∙ t)
any_hit p (y ∷ ys) x (inr i) t = grind (arith, any_hit p ys x i t)

pub any_some : {A : Type 0} (p : A → Bool) (xs : List A) → any p xs ≡ true → (x : A) × In x xs × (p x ≡ true)
any_some p [] t = absurd (both_ways false refl t)
any_some {A} p (y ∷ ys) t =
    cond_both (p y) true (any p ys) (λ (b : Bool). b ≡ true → (x : A) × In x (y ∷ ys) × (p x ≡ true))
    (λ u _. (y, inl refl, u))
    (λ _ v. let r = any_some p ys v in (r.0, inr r.1, r.2))
    t

-- ---- the lowest that passes

counted_at : (n k : ℕ) → k < n → get_or (range_with_len 0 n) k 0 ≡ k
counted_at n k l = omega (arith, get_or-range_with_len 0 n k 0 l)

pub lowest_passes : (free : ℕ → Bool) (n : ℕ) → lowest free n < n → free (lowest free n) ≡ true
lowest_passes free n l =
    not-false _
    (subst (λ (w : ℕ). not (free w) ≡ false) (counted_at n (lowest free n) l)
    (prefix_len_stops (λ w. not (free w)) (range_with_len 0 n) 0 (omega (arith, length-range_with_len 0 n))))

pub lowest_none : (free : ℕ → Bool) (n : ℕ) → n ≤ lowest free n → (w : ℕ) → w < n → free w ≡ false
lowest_none free n l w u =
    not-true _ (subst (λ (v : ℕ). not (free v) ≡ true) (counted_at n w u) (prefix_len_passes (λ w. not (free w)) (range_with_len 0 n) w 0 (omega arith)))

-- where fewer than n of the numbers below n are lit, one of them is not
pub lowest_free : (lit : ℕ → Bool) (n : ℕ) → count_by lit (range_with_len 0 n) < n → lowest (λ w. not (lit w)) n < n
lowest_free lit n l = elim (cases_lt (lowest (λ w. not (lit w)) n) n) [
  | inl h ↦ h
  | inr h ↦ let no : ⊥ = omega (arith, length-range_with_len 0 n, count_all lit true (range_with_len 0 n) (λ w i. not-false (lit w) (lowest_none (λ w. not (lit w)) n h w (omega (arith, counting_in n 0 w i))))) in absurd no
]

-- ---- two of a list

pub pairwise_pick : {A : Type 0} (R : A → A → Type 0) (xs : List A) (x y : A) → Pairwise R xs → In x xs → In y xs → (x ≡ y) ⊎ (R x y ⊎ R y x)
pairwise_pick R [] x y p i j = absurd i
pairwise_pick R (z ∷ zs) x y p (inl d) (inl e) = inl (d ∙ sym e)
pairwise_pick {A} R (z ∷ zs) x y p (inl d) (inr j) = inr (inl (subst (λ (u : A). R u y) (sym d) (p.0 y j)))
pairwise_pick {A} R (z ∷ zs) x y p (inr i) (inl e) = inr (inr (subst (λ (u : A). R u x) (sym e) (p.0 x i)))
pairwise_pick R (z ∷ zs) x y p (inr i) (inr j) = pairwise_pick R zs x y p.1 i j

pub unlike_distinct : (ss : List Session) → Pairwise Unlike ss → Distinct ss
unlike_distinct ss = pairwise_weaker Unlike (λ x y. x ≡ y → ⊥) ss (λ x y u v h e. h (ap (λ (z : Session). z.number) e))

module _ (g : ℕ → ℕ) (ss : List Session) (clear : Pairwise (Clear g) ss) where
  pub same_source : (s t : Session) → In s ss → In t ss → s.wavelength ≡ t.wavelength → g s.source ≡ g t.source → s ≡ t
  same_source s t i j w e =
      elim (pairwise_pick (Clear g) ss s t clear i j) [ inl d ↦ d | inr (inl h) ↦ absurd ((h w).0 e) | inr (inr h) ↦ absurd ((h (sym w)).0 (sym e)) ]

  pub same_destination : (s t : Session) → In s ss → In t ss → s.wavelength ≡ t.wavelength → g s.destination ≡ g t.destination → s ≡ t
  same_destination s t i j w e =
      elim (pairwise_pick (Clear g) ss s t clear i j) [ inl d ↦ d | inr (inl h) ↦ absurd ((h w).1 e) | inr (inr h) ↦ absurd ((h (sym w)).1 (sym e)) ]

-- ---- the step

pub leaves_says : (g : ℕ → ℕ) (w a : ℕ) (s : Session) → leaves g w a s ≡ true → (s.wavelength ≡ w) × (g s.source ≡ a)
leaves_says g w a s t = let r = and_parts _ _ t in (eqb-true _ _ r.0, eqb-true _ _ r.1)

pub enters_says : (g : ℕ → ℕ) (w b : ℕ) (s : Session) → enters g w b s ≡ true → (s.wavelength ≡ w) × (g s.destination ≡ b)
enters_says g w b s t = let r = and_parts _ _ t in (eqb-true _ _ r.0, eqb-true _ _ r.1)

pub leaves_from : (g : ℕ → ℕ) (w a : ℕ) (s : Session) → s.wavelength ≡ w → g s.source ≡ a → leaves g w a s ≡ true
leaves_from g w a s d e = and_from _ _ (eq-eqb _ _ d) (eq-eqb _ _ e)

pub enters_from : (g : ℕ → ℕ) (w b : ℕ) (s : Session) → s.wavelength ≡ w → g s.destination ≡ b → enters g w b s ≡ true
enters_from g w b s d e = and_from _ _ (eq-eqb _ _ d) (eq-eqb _ _ e)

-- s and t stand behind one another in a chain: they enter one group, or leave one group
pub record Across (g : ℕ → ℕ) (p q : ℕ) (s t : Session) : Type 0 where
  pub on_q : s.wavelength ≡ q
  pub on_p : t.wavelength ≡ p
  pub group : g s.destination ≡ g t.destination

pub record Back (g : ℕ → ℕ) (p q : ℕ) (s t : Session) : Type 0 where
  pub on_p : s.wavelength ≡ p
  pub on_q : t.wavelength ≡ q
  pub group : g s.source ≡ g t.source

module _ (g : ℕ → ℕ) (ss : List Session) (p q : ℕ) where
  pub next_says : (s t : Session) → next g ss p q s ≡ Some t → In t ss × (Across g p q s t ⊎ Back g p q s t)
  next_says s t e = go (s.wavelength == q) refl (s.wavelength == p) refl e
    where
      go : (b : Bool) → (s.wavelength == q) ≡ b → (c : Bool) → (s.wavelength == p) ≡ c → cond b (first (enters g p (g s.destination)) ss) (cond c (first (leaves g q (g s.source)) ss) None) ≡ Some t → In t ss × (Across g p q s t ⊎ Back g p q s t)
      go true u c v e =
          let r = first_found (enters g p (g s.destination)) ss t e in
          let k = enters_says g p (g s.destination) t r.1 in
          (r.0, inl (record { on_q = eqb-true _ _ u; on_p = k.0; group = sym k.1 }))
      go false u true v e =
          let r = first_found (leaves g q (g s.source)) ss t e in
          let k = leaves_says g q (g s.source) t r.1 in
          (r.0, inr (record { on_p = eqb-true _ _ v; on_q = k.0; group = sym k.1 }))
      go false u false v e = absurd (none-some t e)

  module _ (clear : Pairwise (Clear g) ss) (differ : p ≡ q → ⊥) where
    pub next_across : (s t : Session) → In t ss → Across g p q s t → next g ss p q s ≡ Some t
    next_across s t j x =
        let r = first_hit (enters g p (g s.destination)) ss t j (enters_from g p (g s.destination) t x.on_p (sym x.group)) in
        let f = first_found (enters g p (g s.destination)) ss r.0 r.1 in
        let k = enters_says g p (g s.destination) r.0 f.1 in
        let same : r.0 ≡ t = same_destination g ss clear r.0 t f.0 j (k.0 ∙ sym x.on_p) (k.1 ∙ x.group) in
        rw (eq-eqb s.wavelength q x.on_q) (r.1 ∙ ap Some same)

    pub next_back : (s t : Session) → In t ss → Back g p q s t → next g ss p q s ≡ Some t
    next_back s t j x =
        let r = first_hit (leaves g q (g s.source)) ss t j (leaves_from g q (g s.source) t x.on_q (sym x.group)) in
        let f = first_found (leaves g q (g s.source)) ss r.0 r.1 in
        let k = leaves_says g q (g s.source) r.0 f.1 in
        let same : r.0 ≡ t = same_source g ss clear r.0 t f.0 j (k.0 ∙ sym x.on_q) (k.1 ∙ x.group) in
        let no : (s.wavelength == q) ≡ false = ne_eqb _ _ (λ e. differ (sym x.on_p ∙ e)) in
        rw (no, eq-eqb s.wavelength p x.on_p) (r.1 ∙ ap Some same)

    pub next_injective : Injective (λ s. In s ss) (next g ss p q)
    next_injective x y z i j d e = both (next_says x z d).1 (next_says y z e).1
      where
        both : Across g p q x z ⊎ Back g p q x z → Across g p q y z ⊎ Back g p q y z → x ≡ y
        both (inl h) (inl k) = same_destination g ss clear x y i j (h.on_q ∙ sym k.on_q) (h.group ∙ sym k.group)
        both (inl h) (inr k) = absurd (differ (sym h.on_p ∙ k.on_q))
        both (inr h) (inl k) = absurd (differ (sym k.on_p ∙ h.on_q))
        both (inr h) (inr k) = same_source g ss clear x y i j (h.on_p ∙ sym k.on_p) (h.group ∙ sym k.group)
