-- The exchange of two wavelengths along a whole chain: nothing meets, and the wavelength that becomes free serves the new session.
use Rattle.std.proofs.Common.{◌≡◌, ℕ, ◌+◌, ◌*◌, ◌<◌, ◌≤◌, Bool, true, false, cond, ◌⊎◌, List, ◌∷◌, ◌++◌, map, length, Some, sym, refl, ap, ◌∙◌, subst, inl, inr, arith, ◌==◌}
use Rattle.std.proofs.lemmas.Option.{same_Some}
use Rattle.std.proofs.lemmas.Bool.{eqb-true, eq-eqb, ne_eqb, both_ways, true≢false}
use Rattle.std.proofs.lemmas.List.{length-map, length-append}
use Rattle.reckoning.specs.Lists.{In, Pairwise, Distinct, chain}
use Rattle.reckoning.specs.declared.session.Session.{Session}
use Rattle.reckoning.specs.Standing.{leaves, enters, lit_out, lit_into}
use Rattle.reckoning.specs.Plans.{next, swap, moved, among}
use Rattle.reckoning.specs.Laws.{Clear, Unlike}
use Rattle.reckoning.proofs.Pigeon.{pigeon_below, in_map, in_either, pairwise_map, pairwise_append}
use Rattle.reckoning.proofs.Chains.{Injective, Unreached, along, head_in, closed, closed_back, chain_distinct, chains_apart}
use Rattle.reckoning.proofs.Sessions.{Colouring, any_hit, any_some, same_source, same_destination, leaves_from, enters_from, next_says, next_across, next_back, next_injective, pairwise_pick}

-- ---- the exchange of two numbers

pub swap_cases : (p q w : ℕ) → ((w ≡ p) × (swap p q w ≡ q)) ⊎ (((w ≡ q) × (swap p q w ≡ p)) ⊎ ((w ≡ p → ⊥) × (w ≡ q → ⊥) × (swap p q w ≡ w)))
swap_cases p q w = grind arith

pub swap_injective : (p q v w : ℕ) → swap p q v ≡ swap p q w → v ≡ w
swap_injective p q v w e = grind arith

-- ---- what moves is closed under the step, both ways: nothing meets afterwards

pub clear_back : (g : ℕ → ℕ) (s t : Session) → Clear g s t → Clear g t s
clear_back g s t h w = (λ e. (h (sym w)).0 (sym e), λ e. (h (sym w)).1 (sym e))

module _ (g : ℕ → ℕ) (ss : List Session) (p q : ℕ) (clear : Pairwise (Clear g) ss) (differ : p ≡ q → ⊥) where
  -- one of the two moves
  pub one_moves : (s t : Session) → In s ss → In t ss → Clear g s t → (next g ss p q s ≡ Some t → ⊥) → (next g ss p q t ≡ Some s → ⊥) → Clear g (moved p q s) t
  one_moves s t i j h st ts w = go (swap_cases p q s.wavelength)
    where
      go : ((s.wavelength ≡ p) × (swap p q s.wavelength ≡ q)) ⊎ (((s.wavelength ≡ q) × (swap p q s.wavelength ≡ p)) ⊎ ((s.wavelength ≡ p → ⊥) × (s.wavelength ≡ q → ⊥) × (swap p q s.wavelength ≡ s.wavelength))) → (g s.source ≡ g t.source → ⊥) × (g s.destination ≡ g t.destination → ⊥)
      go (inl k) = (
        λ e. st (next_back g ss p q clear differ s t j (record { on_p = k.0; on_q = sym w ∙ k.1; group = e })),
        λ e. ts (next_across g ss p q clear differ t s i (record { on_q = sym w ∙ k.1; on_p = k.0; group = sym e })),
      )
      go (inr (inl k)) = (
        λ e. ts (next_back g ss p q clear differ t s i (record { on_p = sym w ∙ k.1; on_q = k.0; group = sym e })),
        λ e. st (next_across g ss p q clear differ s t j (record { on_q = k.0; on_p = sym w ∙ k.1; group = e })),
      )
      go (inr (inr k)) = h (sym k.2 ∙ w)

  pub stays_clear : (c : Session → Bool) → ((s t : Session) → In s ss → In t ss → next g ss p q s ≡ Some t → c s ≡ c t) → Pairwise (Clear g) (map (λ s. cond (c s) (moved p q s) s) ss)
  stays_clear c together =
      pairwise_map (Clear g) (Clear g) (λ s. cond (c s) (moved p q s) s) ss clear (λ s t i j h. go s t i j h (c s) refl (c t) refl)
    where
      go : (s t : Session) → In s ss → In t ss → Clear g s t → (u : Bool) → c s ≡ u → (v : Bool) → c t ≡ v → Clear g (cond u (moved p q s) s) (cond v (moved p q t) t)
      go s t i j h true d true e = λ w. h (swap_injective p q s.wavelength t.wavelength w)
      go s t i j h true d false e =
          one_moves s t i j h (λ n. true≢false (sym d ∙ (together s t i j n ∙ e))) (λ n. true≢false (sym d ∙ (sym (together t s j i n) ∙ e)))
      go s t i j h false d true e =
          clear_back g (moved p q t) s (one_moves t s j i (clear_back g s t h) (λ n. true≢false (sym e ∙ (together t s j i n ∙ d))) (λ n. true≢false (sym e ∙ (sym (together s t i j n) ∙ d))))
      go s t i j h false d false e = h

-- ---- the two chains

-- p is free out of a and q into b, and s starts the source chain, t the destination chain
pub record Starts (g : ℕ → ℕ) (ss : List Session) (a b p q : ℕ) (s t : Session) : Type 0 where
  pub free_out : lit_out g ss a p ≡ false
  pub free_in : lit_into g ss b q ≡ false
  pub s_in : In s ss
  pub s_on : s.wavelength ≡ q
  pub s_out : g s.source ≡ a
  pub t_in : In t ss
  pub t_on : t.wavelength ≡ p
  pub t_into : g t.destination ≡ b

-- ---- a part of the standing sessions, told by number

pub same_number : (ss : List Session) → Pairwise Unlike ss → (x y : Session) → In x ss → In y ss → x.number ≡ y.number → x ≡ y
same_number ss u x y i j e =
    elim (pairwise_pick Unlike ss x y u i j) [ inl d ↦ d | inr (inl h) ↦ absurd (h e) | inr (inr h) ↦ absurd (h (sym e)) ]

module _ (ss : List Session) (unlike : Pairwise Unlike ss) (es : List Session) (part : (x : Session) → In x es → In x ss) where
  pub among_says : (x : Session) → In x ss → among es x ≡ true → In x es
  among_says x i h =
      let r = any_some (λ e. e.number == x.number) es h in
      subst (λ (z : Session). In z es) (same_number ss unlike r.0 x (part r.0 r.1) i (eqb-true _ _ r.2)) r.1

  pub among_from : (x : Session) → In x es → among es x ≡ true
  among_from x i = any_hit (λ e. e.number == x.number) es x i (eq-eqb x.number x.number refl)

pub bool_same : (u v : Bool) → (u ≡ true → v ≡ true) → (v ≡ true → u ≡ true) → u ≡ v
bool_same u v h k = grind arith

-- one of the sessions on p or q
abbrev Standing : List Session → ℕ → ℕ → Session → Type 0
Standing ss p q x = In x ss × ((x.wavelength ≡ p) ⊎ (x.wavelength ≡ q))

-- a session on p by the group that it leaves, one on q by the group that it enters
abbrev place : (ℕ → ℕ) → ℕ → ℕ → Session → ℕ
place g G p x = cond (x.wavelength == p) (g x.source) (G + g x.destination)

module _ (g : ℕ → ℕ) (W G : ℕ) (ss : List Session) (sound : Colouring g W G ss) (a b p q : ℕ) (s t : Session) (m : Starts g ss a b p q s t) where
  none_out : (x : Session) → In x ss → x.wavelength ≡ p → g x.source ≡ a → ⊥
  none_out x i w e = both_ways (lit_out g ss a p) m.free_out (any_hit (leaves g p a) ss x i (leaves_from g p a x w e))

  none_in : (x : Session) → In x ss → x.wavelength ≡ q → g x.destination ≡ b → ⊥
  none_in x i w e = both_ways (lit_into g ss b q) m.free_in (any_hit (enters g q b) ss x i (enters_from g q b x w e))

  pub differ : p ≡ q → ⊥
  differ e = none_out s m.s_in (m.s_on ∙ sym e) m.s_out

  pub s_unreached : Unreached (λ x. In x ss) (next g ss p q) s
  s_unreached y i e = elim (next_says g ss p q y s e).1 [ inl h ↦ differ (sym h.on_p ∙ m.s_on) | inr h ↦ none_out y i h.on_p (h.group ∙ m.s_out) ]

  pub t_unreached : Unreached (λ x. In x ss) (next g ss p q) t
  t_unreached y i e = elim (next_says g ss p q y t e).1 [ inl h ↦ none_in y i h.on_q (h.group ∙ m.t_into) | inr h ↦ differ (sym m.t_on ∙ h.on_q) ]

  stays : (y x : Session) → next g ss p q y ≡ Some x → In x ss
  stays y x e = (next_says g ss p q y x e).0

  inj : Injective (λ x. In x ss) (next g ss p q)
  inj = next_injective g ss p q sound.clear differ

  pub disjoint : (n k : ℕ) (x : Session) → In x (chain (next g ss p q) n (Some s)) → In x (chain (next g ss p q) k (Some t)) → ⊥
  disjoint n k =
      chains_apart (λ x. In x ss) (next g ss p q) stays inj n k s t m.s_in m.t_in (λ e. differ (sym m.t_on ∙ (ap (λ x. x.wavelength) (sym e) ∙ m.s_on))) s_unreached t_unreached

  places : (x : Session) → Standing ss p q x → ((x.wavelength ≡ p) × (place g G p x ≡ g x.source)) ⊎ ((x.wavelength ≡ q) × (place g G p x ≡ G + g x.destination))
  places x (i, h) = elim h [ inl e ↦ inl (e, rw (eq-eqb x.wavelength p e)) | inr e ↦ inr (e, rw (ne_eqb x.wavelength p (λ d. differ (sym d ∙ e)))) ]

  place_apart : (x y : Session) → Standing ss p q x → Standing ss p q y → place g G p x ≡ place g G p y → x ≡ y
  place_apart x y u v e = go (places x u) (places y v)
    where
      go : ((x.wavelength ≡ p) × (place g G p x ≡ g x.source)) ⊎ ((x.wavelength ≡ q) × (place g G p x ≡ G + g x.destination)) → ((y.wavelength ≡ p) × (place g G p y ≡ g y.source)) ⊎ ((y.wavelength ≡ q) × (place g G p y ≡ G + g y.destination)) → x ≡ y
      go (inl h) (inl k) = same_source g ss sound.clear x y u.0 v.0 (h.0 ∙ sym k.0) (omega arith)
      go (inl h) (inr k) = let absurdity : ⊥ = omega (arith, sound.grouped x u.0) in absurd absurdity
      go (inr h) (inl k) = let absurdity : ⊥ = omega (arith, sound.grouped y v.0) in absurd absurdity
      go (inr h) (inr k) = same_destination g ss sound.clear x y u.0 v.0 (h.0 ∙ sym k.0) (omega arith)

  -- sessions on p leave groups other than a, and sessions on q enter groups other than b: at most 2 G - 2 of them
  pub counted : (xs : List Session) → Distinct xs → ((x : Session) → In x xs → Standing ss p q x) → length xs + 2 ≤ 2 * G
  counted xs d h =
      let l = pigeon_below (2 * G) (a ∷ ((G + b) ∷ map (place g G p) xs)) (first_apart, (not_b, rest_apart)) below in
      omega (arith, length-map xs (place g G p))
    where
      a_low : a < G
      a_low = omega (arith, sound.grouped s m.s_in, m.s_out)

      b_low : b < G
      b_low = omega (arith, sound.grouped t m.t_in, m.t_into)

      not_a : (y : ℕ) → In y (map (place g G p) xs) → a ≡ y → ⊥
      not_a y i e =
          let r = in_map (place g G p) y xs i in
          elim (places r.0 (h r.0 r.1)) [ inl k ↦ none_out r.0 (h r.0 r.1).0 k.0 (omega (arith, e, r.2, k.1)) | inr k ↦ omega (arith, e, r.2, k.1, a_low) ]

      not_b : (y : ℕ) → In y (map (place g G p) xs) → G + b ≡ y → ⊥
      not_b y i e =
          let r = in_map (place g G p) y xs i in
          elim (places r.0 (h r.0 r.1)) [ inl k ↦ omega (arith, e, r.2, k.1, sound.grouped r.0 (h r.0 r.1).0) | inr k ↦ none_in r.0 (h r.0 r.1).0 k.0 (omega (arith, e, r.2, k.1)) ]

      first_apart : (y : ℕ) → In y ((G + b) ∷ map (place g G p) xs) → a ≡ y → ⊥
      first_apart y (inl d) e = omega (arith, a_low, d, e)
      first_apart y (inr i) e = not_a y i e

      rest_apart : Distinct (map (place g G p) xs)
      rest_apart = pairwise_map (λ x y. x ≡ y → ⊥) (λ x y. x ≡ y → ⊥) (place g G p) xs d (λ x y i j n e. n (place_apart x y (h x i) (h y j) e))

      below : (y : ℕ) → In y (a ∷ ((G + b) ∷ map (place g G p) xs)) → y < 2 * G
      below y (inl e) = omega (arith, a_low)
      below y (inr (inl e)) = omega (arith, b_low)
      below y (inr (inr i)) =
          let r = in_map (place g G p) y xs i in
          elim (places r.0 (h r.0 r.1)) [ inl k ↦ omega (arith, r.2, k.1, sound.grouped r.0 (h r.0 r.1).0) | inr k ↦ omega (arith, r.2, k.1, sound.grouped r.0 (h r.0 r.1).0) ]

  -- ---- a whole chain: from s or from t, with fuel 2 G
  module _ (r : Session) (r-in : In r ss) (r-on : (r.wavelength ≡ p) ⊎ (r.wavelength ≡ q)) (r-unreached : Unreached (λ x. In x ss) (next g ss p q) r) where
    pub whole_standing : (x : Session) → In x (chain (next g ss p q) (2 * G) (Some r)) → Standing ss p q x
    whole_standing =
        along (next g ss p q) (Standing ss p q)
        (λ y x e. let k = next_says g ss p q y x e in (k.0, elim k.1 [ inl h ↦ inl h.on_p | inr h ↦ inr h.on_q ]))
        (2 * G) (Some r) (λ u e. subst (Standing ss p q) (same_Some r u e) (r-in, r-on))

    pub whole_distinct : Distinct (chain (next g ss p q) (2 * G) (Some r))
    whole_distinct = chain_distinct (λ x. In x ss) (next g ss p q) stays inj (2 * G) r r-in r-unreached

    pub whole_short : length (chain (next g ss p q) (2 * G) (Some r)) + 2 ≤ 2 * G
    whole_short = counted (chain (next g ss p q) (2 * G) (Some r)) whole_distinct whole_standing

    pub whole_together : (x y : Session) → In x ss → In y ss → next g ss p q x ≡ Some y → among (chain (next g ss p q) (2 * G) (Some r)) x ≡ among (chain (next g ss p q) (2 * G) (Some r)) y
    whole_together x y i j e =
        let es : List Session = chain (next g ss p q) (2 * G) (Some r) in
        let part : (z : Session) → In z es → In z ss = λ z k. (whole_standing z k).0 in
        bool_same (among es x) (among es y)
        (λ h. among_from ss sound.unlike es part y (closed (next g ss p q) (2 * G) (Some r) (omega (arith, whole_short)) x y (among_says ss sound.unlike es part x i h) e))
        (λ h. among_from ss sound.unlike es part x (closed_back (λ z. In z ss) (next g ss p q) stays inj (2 * G) r r-in r-unreached x y i e (among_says ss sound.unlike es part y j h)))

    pub whole_clear : Pairwise (Clear g) (map (λ x. cond (among (chain (next g ss p q) (2 * G) (Some r)) x) (moved p q x) x) ss)
    whole_clear = stays_clear g ss p q sound.clear differ (among (chain (next g ss p q) (2 * G) (Some r))) whole_together

  -- ---- the two chains, and the new session

  pub both_short : length (chain (next g ss p q) (2 * G) (Some s)) + length (chain (next g ss p q) (2 * G) (Some t)) + 2 ≤ 2 * G
  both_short =
      let es : List Session = chain (next g ss p q) (2 * G) (Some s) in
      let fs : List Session = chain (next g ss p q) (2 * G) (Some t) in
      let l = counted (es ++ fs)
      (pairwise_append (λ x y. x ≡ y → ⊥) es fs (whole_distinct s m.s_in (inr m.s_on) s_unreached) (whole_distinct t m.t_in (inl m.t_on) t_unreached)
      (λ x y i j e. disjoint (2 * G) (2 * G) x i (subst (λ (z : Session). In z fs) (sym e) j)))
      (λ x i. elim (in_either x es fs i) [ inl k ↦ whole_standing s m.s_in (inr m.s_on) s_unreached x k | inr k ↦ whole_standing t m.t_in (inl m.t_on) t_unreached x k ])
      in
      omega (arith, length-append es fs)

  s_among : In s (chain (next g ss p q) (2 * G) (Some s))
  s_among = head_in (next g ss p q) (2 * G) (Some s) s refl (omega (arith, sound.grouped s m.s_in))

  t_among : In t (chain (next g ss p q) (2 * G) (Some t))
  t_among = head_in (next g ss p q) (2 * G) (Some t) t refl (omega (arith, sound.grouped t m.t_in))

  -- the source chain has moved: q is free out of a and into b
  pub q_free : (x : Session) → In x ss → (cond (among (chain (next g ss p q) (2 * G) (Some s)) x) (moved p q x) x).wavelength ≡ q → (g x.source ≡ a → ⊥) × (g x.destination ≡ b → ⊥)
  q_free x i w = go (among es x) refl w
    where
      es : List Session
      es = chain (next g ss p q) (2 * G) (Some s)

      part : (z : Session) → In z es → In z ss
      part z k = (whole_standing s m.s_in (inr m.s_on) s_unreached z k).0

      go : (u : Bool) → among es x ≡ u → (cond u (moved p q x) x).wavelength ≡ q → (g x.source ≡ a → ⊥) × (g x.destination ≡ b → ⊥)
      go true d w =
          let k = among_says ss sound.unlike es part x i d in
          let apart = differ in
          let on_p : x.wavelength ≡ p = grind (arith, apart) in (
            none_out x i on_p,
            λ e. disjoint (2 * G) (2 * G) x k (subst (λ (z : Session). In z (chain (next g ss p q) (2 * G) (Some t))) (same_destination g ss sound.clear t x m.t_in i (m.t_on ∙ sym on_p) (m.t_into ∙ sym e)) t_among),
          )
      go false d w = (
        λ e. both_ways (among es x) d (among_from ss sound.unlike es part x (subst (λ (z : Session). In z es) (same_source g ss sound.clear s x m.s_in i (m.s_on ∙ sym w) (m.s_out ∙ sym e)) s_among)),
        none_in x i w,
      )

  -- the destination chain has moved: p is free out of a and into b
  pub p_free : (x : Session) → In x ss → (cond (among (chain (next g ss p q) (2 * G) (Some t)) x) (moved p q x) x).wavelength ≡ p → (g x.source ≡ a → ⊥) × (g x.destination ≡ b → ⊥)
  p_free x i w = go (among fs x) refl w
    where
      fs : List Session
      fs = chain (next g ss p q) (2 * G) (Some t)

      part : (z : Session) → In z fs → In z ss
      part z k = (whole_standing t m.t_in (inl m.t_on) t_unreached z k).0

      go : (u : Bool) → among fs x ≡ u → (cond u (moved p q x) x).wavelength ≡ p → (g x.source ≡ a → ⊥) × (g x.destination ≡ b → ⊥)
      go true d w =
          let k = among_says ss sound.unlike fs part x i d in
          let apart = differ in
          let on_q : x.wavelength ≡ q = grind (arith, apart) in (
            λ e. disjoint (2 * G) (2 * G) x (subst (λ (z : Session). In z (chain (next g ss p q) (2 * G) (Some s))) (same_source g ss sound.clear s x m.s_in i (m.s_on ∙ sym on_q) (m.s_out ∙ sym e)) s_among) k,
            none_in x i on_q,
          )
      go false d w = (
        none_out x i w,
        λ e. both_ways (among fs x) d (among_from ss sound.unlike fs part x (subst (λ (z : Session). In z fs) (same_destination g ss sound.clear t x m.t_in i (m.t_on ∙ sym w) (m.t_into ∙ sym e)) t_among)),
      )
