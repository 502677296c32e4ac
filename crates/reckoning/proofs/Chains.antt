-- Chains of a step that never takes two elements to one: no repeats, two chains from different starts share nothing, and with fuel to spare a chain is closed.
-- Only the elements with P count: the step leads to such elements alone, and takes no two of them to one.
use Rattle.std.proofs.Common.{◌≡◌, ℕ, zero, suc, ◌<◌, ◌∷◌, length, Some, None, Option, sym, refl, ap, ◌∙◌, subst, inl, inr, arith}
use Rattle.std.proofs.lemmas.Option.{none-some, same_Some}
use Rattle.reckoning.specs.Lists.{In, Distinct, chain}

-- nothing with P steps to s
abbrev pub Unreached : {A : Type 0} → (A → Type 0) → (A → Option A) → A → Type 0
Unreached {A} P f s = (y : A) → P y → f y ≡ Some s → ⊥

abbrev pub Injective : {A : Type 0} → (A → Type 0) → (A → Option A) → Type 0
Injective {A} P f = (x y z : A) → P x → P y → f x ≡ Some z → f y ≡ Some z → x ≡ y

-- no chain from t comes back to t
abbrev NoReturn : {A : Type 0} → (A → Option A) → A → Type 0
NoReturn f t = (m : ℕ) → In t (chain f m (f t)) → ⊥

-- what holds of the start and of whatever is stepped to holds all along
pub along : {A : Type 0} (f : A → Option A) (P : A → Type 0) → ((y x : A) → f y ≡ Some x → P x) → (n : ℕ) (o : Option A) → ((s : A) → o ≡ Some s → P s) → (x : A) → In x (chain f n o) → P x
along f P h zero o k x i = absurd i
along f P h (suc n) None k x i = absurd i
along f P h (suc n) (Some s) k x (inl d) = subst P (sym d) (k s refl)
along f P h (suc n) (Some s) k x (inr i) = along f P h n (f s) (λ u e. h s u e) x i

pub head_in : {A : Type 0} (f : A → Option A) (n : ℕ) (o : Option A) (y : A) → o ≡ Some y → 0 < n → In y (chain f n o)
head_in f zero o y e l = let no : ⊥ = omega arith in absurd no
head_in f (suc n) None y e l = absurd (none-some y e)
head_in f (suc n) (Some s) y e l = inl (sym (same_Some s y e))

-- the fuel is not spent, so what an element of the chain steps to is there too
pub closed : {A : Type 0} (f : A → Option A) (n : ℕ) (o : Option A) → length (chain f n o) < n → (x y : A) → In x (chain f n o) → f x ≡ Some y → In y (chain f n o)
closed f zero o l x y i e = absurd i
closed f (suc n) None l x y i e = absurd i
closed f (suc n) (Some s) l x y (inl d) e = inr (head_in f n (f s) y (ap f (sym d) ∙ e) (omega arith))
closed f (suc n) (Some s) l x y (inr i) e = inr (closed f n (f s) (omega arith) x y i e)

module _ {A : Type 0} (P : A → Type 0) (f : A → Option A) (stays : (y x : A) → f y ≡ Some x → P x) where
  -- each element behind the first has the one that steps to it in the chain
  before : (n : ℕ) (y x : A) (o : Option A) → P y → f y ≡ o → In x (chain f n o) → (z : A) × P z × In z (y ∷ chain f n o) × (f z ≡ Some x)
  before zero y x o a e i = absurd i
  before (suc n) y x None a e i = absurd i
  before (suc n) y x (Some u) a e (inl d) = (y, a, inl refl, e ∙ ap Some (sym d))
  before (suc n) y x (Some u) a e (inr i) =
      let r = before n u x (f u) (stays y u e) refl i in (r.0, r.1, inr r.2, r.3)

  module _ (inj : Injective P f) where
    -- what steps to an element of the chain is there, if nothing steps to the start
    pub closed_back : (n : ℕ) (s : A) → P s → Unreached P f s → (x y : A) → P x → f x ≡ Some y → In y (chain f n (Some s)) → In x (chain f n (Some s))
    closed_back zero s a r x y b e i = absurd i
    closed_back (suc n) s a r x y b e (inl d) = absurd (r x b (e ∙ ap Some d))
    closed_back (suc n) s a r x y b e (inr i) =
        let w = before n s y (f s) a refl i in
        subst (λ (z : A). In z (s ∷ chain f n (f s))) (inj w.0 x y w.1 b w.3 e) w.2

    return_on : (t u : A) → P t → NoReturn f t → f t ≡ Some u → NoReturn f u
    return_on t u a h e m i =
        let w = before m u u (f u) (stays t u e) refl i in
        let here : In t (chain f (suc m) (Some u)) = subst (λ (z : A). In z (u ∷ chain f m (f u))) (inj w.0 t u w.1 a w.3 e) w.2 in
        h (suc m) (subst (λ (o : Option A). In t (chain f (suc m) o)) (sym e) here)

    no_repeats : (n : ℕ) (o : Option A) → ((t : A) → o ≡ Some t → P t × NoReturn f t) → Distinct (chain f n o)
    no_repeats zero o h = tt
    no_repeats (suc n) None h = tt
    no_repeats (suc n) (Some t) h = (
      λ y i e. (h t refl).1 n (subst (λ (z : A). In z (chain f n (f t))) (sym e) i),
      no_repeats n (f t) (λ u e. (stays t u e, return_on t u (h t refl).0 (h t refl).1 e)),
    )

    pub chain_distinct : (n : ℕ) (s : A) → P s → Unreached P f s → Distinct (chain f n (Some s))
    chain_distinct n s a r =
        no_repeats n (Some s) (λ t e.
        let b : P t = subst P (same_Some s t e) a in
        (b, λ m i. let w = before m t t (f t) b refl i in r w.0 w.1 (w.3 ∙ sym e)))

    apart : (m : ℕ) (t : A) → P t → Unreached P f t → (n : ℕ) (o : Option A) → ((s : A) → o ≡ Some s → P s × ((k : ℕ) → In s (chain f k (Some t)) → ⊥)) → (x : A) → In x (chain f n o) → In x (chain f m (Some t)) → ⊥
    apart m t a r zero o h x i j = absurd i
    apart m t a r (suc n) None h x i j = absurd i
    apart m t a r (suc n) (Some s) h x (inl d) j = (h s refl).1 m (subst (λ (z : A). In z (chain f m (Some t))) d j)
    apart m t a r (suc n) (Some s) h x (inr i) j =
        apart m t a r n (f s) (λ u e. (stays s u e, λ k l. (h s refl).1 k (closed_back k t a r s u (h s refl).0 e l))) x i j

    -- two chains from different starts to which nothing steps
    pub chains_apart : (n m : ℕ) (s t : A) → P s → P t → (s ≡ t → ⊥) → Unreached P f s → Unreached P f t → (x : A) → In x (chain f n (Some s)) → In x (chain f m (Some t)) → ⊥
    chains_apart n m s t a b ne rs rt x =
        apart m t b rt n (Some s) (λ u e. (subst P (same_Some s u e) a, λ k l. start k u e l)) x
      where
        start : (k : ℕ) (u : A) → Some s ≡ Some u → In u (chain f k (Some t)) → ⊥
        start zero u e l = l
        start (suc k) u e (inl d) = ne (same_Some s u e ∙ d)
        start (suc k) u e (inr l) = let w = before k t u (f t) b refl l in rs w.0 w.1 (w.3 ∙ sym e)
