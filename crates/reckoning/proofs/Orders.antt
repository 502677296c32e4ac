-- The orders of an admission, carried out singly: the plant accepts each, and comes to carry what the sessions then are.
use Rattle.std.proofs.Common.{◌≡◌, ℕ, zero, suc, ◌<◌, Bool, true, false, cond, not, ◌⊎◌, List, [], ◌∷◌, ◌++◌, map, reverse, length, Some, None, filter, Option, sym, refl, ap, ◌∙◌, subst, inl, inr, arith, ◌==◌}
use Rattle.std.proofs.lemmas.Option.{none-some, same_Some}
use mathlib.Core.List.{reverse_aux}
use Rattle.std.proofs.lemmas.Bool.{cases_eq, eq-eqb, ne_eqb, both_ways}
use Rattle.reckoning.specs.Lists.{In, Distinct, chain}
use Rattle.reckoning.specs.declared.session.Session.{Session}
use Rattle.reckoning.specs.declared.order.Order.{Order}
use Rattle.reckoning.specs.declared.order.Kind.TheVariants.{Light}
use Rattle.reckoning.specs.Plans.{next, moved, among}
use Rattle.reckoning.specs.Sheets.{order, back, chain_orders}
use Rattle.reckoning.specs.Laws.{Clear}
use Rattle.plant.specs.Switch.{tuned}
use Rattle.reckoning.proofs.Plants.{Hears, Carrying, Accepts, Led}
use Rattle.std.proofs.lemmas.List.{reverse-reverse}
use Rattle.reckoning.proofs.Pigeon.{in_map, map_in}
use Rattle.reckoning.proofs.Chains.{Injective, Unreached}
use Rattle.reckoning.proofs.Sessions.{Colouring, same_destination, next_injective, pairwise_pick}
use Rattle.reckoning.proofs.Exchange.{swap_injective, one_moves, clear_back, among_says, among_from, same_number}

-- ---- one place of the plant

tuned_here : (hears : Hears) (w b : ℕ) (o : Option ℕ) (v y : ℕ) → v ≡ w → y ≡ b → tuned hears w b o v y ≡ o
tuned_here hears w b o v y d e = rw (eq-eqb v w d, eq-eqb y b e)

tuned_other : (hears : Hears) (w b : ℕ) (o : Option ℕ) (v y : ℕ) → (v ≡ w → y ≡ b → ⊥) → tuned hears w b o v y ≡ hears v y
tuned_other hears w b o v y n =
    elim (cases_eq v w) [ inl d ↦ rw (eq-eqb v w d, ne_eqb y b (n d)) | inr d ↦ rw (ne_eqb v w d) ]

-- y is not where e is
abbrev Elsewhere : (ℕ → ℕ) → Session → Session → Type 0
Elsewhere g e y = y.wavelength ≡ e.wavelength → g y.destination ≡ g e.destination → ⊥

pub carries_like : (g : ℕ → ℕ) (P Q : Session → Type 0) (hears : Hears) → ((y : Session) → P y → Q y) → ((y : Session) → Q y → P y) → Carrying g P hears → Carrying g Q hears
carries_like g P Q hears to from c =
    record { each = λ s i. c.each s (from s i); nothing_else = λ w b a e. let r = c.nothing_else w b a e in (r.0, to r.0 r.1, r.2, r.3, r.4) }

pub darken_step : (g : ℕ → ℕ) (P Q : Session → Type 0) (hears : Hears) (e : Session) → ((y : Session) → Q y → P y × Elsewhere g e y) → ((y : Session) → P y → Elsewhere g e y → Q y) → Carrying g P hears → Carrying g Q (tuned hears e.wavelength (g e.destination) None)
darken_step g P Q hears e from to c =
    record {
      each = λ s i. tuned_other hears e.wavelength (g e.destination) None s.wavelength (g s.destination) (from s i).1 ∙ c.each s (from s i).0;
      nothing_else = λ w b a h. other w b a h;
    }
  where
    other : (w b a : ℕ) → tuned hears e.wavelength (g e.destination) None w b ≡ Some a → (s : Session) × Q s × (s.wavelength ≡ w) × (g s.destination ≡ b) × (g s.source ≡ a)
    other w b a h =
        let apart : w ≡ e.wavelength → b ≡ g e.destination → ⊥ = λ u v. none-some a (sym (tuned_here hears e.wavelength (g e.destination) None w b u v) ∙ h) in
        let r = c.nothing_else w b a (sym (tuned_other hears e.wavelength (g e.destination) None w b apart) ∙ h) in
        (r.0, to r.0 r.1 (λ u v. apart (sym r.2 ∙ u) (sym r.3 ∙ v)), r.2, r.3, r.4)

light_step : (g : ℕ → ℕ) (P Q : Session → Type 0) (hears : Hears) (n : Session) → ((y : Session) → P y → Clear g n y) → ((y : Session) → Q y → P y ⊎ (y ≡ n)) → ((y : Session) → P y → Q y) → Q n → Carrying g P hears → Carrying g Q (tuned hears n.wavelength (g n.destination) (Some (g n.source)))
light_step g P Q hears n clear from to here c =
    record { each = λ s i. one s (from s i); nothing_else = λ w b a h. other w b a h }
  where
    one : (s : Session) → P s ⊎ (s ≡ n) → tuned hears n.wavelength (g n.destination) (Some (g n.source)) s.wavelength (g s.destination) ≡ Some (g s.source)
    one s (inl i) =
        tuned_other hears n.wavelength (g n.destination) (Some (g n.source)) s.wavelength (g s.destination) (λ u v. (clear s i (sym u)).1 (sym v)) ∙ c.each s i
    one s (inr e) =
        tuned_here hears n.wavelength (g n.destination) (Some (g n.source)) s.wavelength (g s.destination) (ap (λ (x : Session). x.wavelength) e) (ap (λ (x : Session). g x.destination) e)
        ∙ ap (λ (x : Session). Some (g x.source)) (sym e)

    other : (w b a : ℕ) → tuned hears n.wavelength (g n.destination) (Some (g n.source)) w b ≡ Some a → (s : Session) × Q s × (s.wavelength ≡ w) × (g s.destination ≡ b) × (g s.source ≡ a)
    other w b a h =
        elim (cases_eq w n.wavelength) [
          | inl u ↦ elim (cases_eq b (g n.destination)) [
            | inl v ↦ (n, here, sym u, sym v, same_Some _ _ (sym (tuned_here hears n.wavelength (g n.destination) (Some (g n.source)) w b u v) ∙ h))
            | inr v ↦ outside w b a h (λ _ y. v y)
          ]
          | inr u ↦ outside w b a h (λ y _. u y)
        ]
      where
        outside : (w b a : ℕ) → tuned hears n.wavelength (g n.destination) (Some (g n.source)) w b ≡ Some a → (w ≡ n.wavelength → b ≡ g n.destination → ⊥) → (s : Session) × Q s × (s.wavelength ≡ w) × (g s.destination ≡ b) × (g s.source ≡ a)
        outside w b a h apart =
            let r = c.nothing_else w b a (sym (tuned_other hears n.wavelength (g n.destination) (Some (g n.source)) w b apart) ∙ h) in
            (r.0, to r.0 r.1, r.2, r.3, r.4)

light_accepted : (g : ℕ → ℕ) (W G : ℕ) (P : Session → Type 0) (hears : Hears) (n : Session) → n.wavelength < W → g n.source < G → g n.destination < G → ((y : Session) → P y → Clear g n y) → Carrying g P hears → Accepts W G hears Light n.wavelength (g n.source) (g n.destination)
light_accepted g W G P hears n h i j clear c = (
  h,
  i,
  j,
  λ y e. let r = c.nothing_else n.wavelength y (g n.source) e in (clear r.0 r.1 (sym r.2)).0 (sym r.4),
  dark (hears n.wavelength (g n.destination)) refl,
)
  where
    dark : (o : Option ℕ) → hears n.wavelength (g n.destination) ≡ o → hears n.wavelength (g n.destination) ≡ None
    dark None e = e
    dark (Some a) e = let r = c.nothing_else n.wavelength (g n.destination) a e in absurd ((clear r.0 r.1 (sym r.2)).1 (sym r.3))

dark_one : (b : ℕ) → filter (λ n. not (n == b)) (b ∷ []) ≡ []
dark_one b = rw (eq-eqb b b refl)

dark_two : (a b : ℕ) → (a ≡ b → ⊥) → filter (λ n. not (n == b)) (a ∷ (b ∷ [])) ≡ a ∷ []
dark_two a b ne = rw (ne_eqb a b ne, eq-eqb b b refl)

-- ---- along the chain, from its end

-- a chain backwards: each is stepped to from the next, and nothing steps to the last
abbrev pub Linked : List Session → (Session → Option Session) → List Session → Type 0
Linked ss f [] = Unit {0}
Linked ss f (e ∷ []) = Unreached (λ x. In x ss) f e
Linked ss f (e ∷ (d ∷ r)) = (f d ≡ Some e) × Linked ss f (d ∷ r)

-- what is lit once `done` has moved, while `dark` is dark
abbrev pub Lit : List Session → ℕ → ℕ → List Session → List Session → Session → Type 0
Lit ss p q done dark y = (In y ss × (In y done → ⊥) × (In y dark → ⊥)) ⊎ ((x : Session) × In x done × (y ≡ moved p q x))

-- half way: r is still to move, e its first is dark
pub record Midway (g : ℕ → ℕ) (ss : List Session) (p q : ℕ) (e : Session) (r done : List Session) : Type 0 where
  pub stands : (x : Session) → In x (e ∷ r) → In x ss
  pub stood : (x : Session) → In x done → In x ss
  pub distinct : Distinct (e ∷ r)
  pub apart : (x : Session) → In x (e ∷ r) → In x done → ⊥
  pub linked : Linked ss (next g ss p q) (e ∷ r)
  pub onward : (z : Session) → next g ss p q e ≡ Some z → In z done
  pub closed : (x z : Session) → In x done → next g ss p q x ≡ Some z → In z done

-- the first of a chain backwards steps nowhere
abbrev pub Ended : (Session → Option Session) → List Session → Type 0
Ended f [] = Unit {0}
Ended f (e ∷ r) = (z : Session) → f e ≡ Some z → ⊥

pub chain_linked : (ss : List Session) (f : Session → Option Session) (n : ℕ) (x : Session) (acc : List Session) (o : Option Session) → f x ≡ o → Linked ss f (x ∷ acc) → Linked ss f (reverse_aux (chain f n o) (x ∷ acc))
chain_linked ss f zero x acc o e l = l
chain_linked ss f (suc n) x acc None e l = l
chain_linked ss f (suc n) x acc (Some y) e l = chain_linked ss f n y (x ∷ acc) (f y) refl (e, l)

pub chain_ended : (f : Session → Option Session) (n : ℕ) (x : Session) (acc : List Session) (o : Option Session) → f x ≡ o → length (chain f n o) < n → Ended f (reverse_aux (chain f n o) (x ∷ acc))
chain_ended f zero x acc o e l = let absurdity : ⊥ = omega arith in absurd absurdity
chain_ended f (suc n) x acc None e l = λ z h. none-some z (sym e ∙ h)
chain_ended f (suc n) x acc (Some y) e l = chain_ended f n y (x ∷ acc) (f y) refl (omega arith)

-- a whole chain backwards, ready to move
pub record Ready (g : ℕ → ℕ) (ss : List Session) (p q : ℕ) (r : List Session) : Type 0 where
  pub stands : (x : Session) → In x r → In x ss
  pub distinct : Distinct r
  pub linked : Linked ss (next g ss p q) r
  pub ended : Ended (next g ss p q) r

-- with no chain to move, the one order lights the new session
pub light_only : (g : ℕ → ℕ) (W G : ℕ) (P Q : Session → Type 0) (n : Session) → n.wavelength < W → g n.source < G → g n.destination < G → ((y : Session) → P y → Clear g n y) → ((y : Session) → Q y → P y ⊎ (y ≡ n)) → ((y : Session) → P y → Q y) → Q n → (hears : Hears) → Carrying g P hears → Led W G (Carrying g Q) hears [] (order g Light n ∷ [])
light_only g W G P Q n h i j clear from to here hears c =
    (light_accepted g W G P hears n h i j clear c, omega arith, light_step g P Q hears n clear from to here c)

module _ (g : ℕ → ℕ) (W G : ℕ) (ss : List Session) (sound : Colouring g W G ss) (p q : ℕ) (p_low : p < W) (q_low : q < W) (differ : p ≡ q → ⊥) where
  f : Session → Option Session
  f = next g ss p q

  inj : Injective (λ x. In x ss) (next g ss p q)
  inj = next_injective g ss p q sound.clear differ

  two_clear : (x y : Session) → In x ss → In y ss → (x ≡ y → ⊥) → Clear g x y
  two_clear x y i j ne =
      elim (pairwise_pick (Clear g) ss x y sound.clear i j) [ inl d ↦ absurd (ne d) | inr (inl h) ↦ h | inr (inr h) ↦ clear_back g y x h ]

  -- a moved session is clear of one that stands, unless they are neighbours in the chain
  moved_clear : (x y : Session) → In x ss → In y ss → (x ≡ y → ⊥) → (next g ss p q x ≡ Some y → ⊥) → (next g ss p q y ≡ Some x → ⊥) → Clear g (moved p q x) y
  moved_clear x y i j ne to from = one_moves g ss p q sound.clear differ x y i j (two_clear x y i j ne) to from

  both_moved : (x y : Session) → In x ss → In y ss → (x ≡ y → ⊥) → Clear g (moved p q x) (moved p q y)
  both_moved x y i j ne w = two_clear x y i j ne (swap_injective p q x.wavelength y.wavelength w)

  moved_low : (x : Session) → In x ss → (moved p q x).wavelength < W
  moved_low x i = grind (arith, sound.low x i)

  -- the first of the chain that is left moves, while its neighbour before it, if any, is dark
  module _ (e : Session) (r done dark : List Session) (m : Midway g ss p q e r done) (e-dark : In e dark) (before : (x : Session) → In x ss → next g ss p q x ≡ Some e → In x dark) where
    relit_clear : (y : Session) → Lit ss p q done dark y → Clear g (moved p q e) y
    relit_clear y (inl (i, undone, lit)) =
        moved_clear e y (m.stands e (inl refl)) i (λ d. lit (subst (λ (z : Session). In z dark) d e-dark)) (λ h. undone (m.onward y h)) (λ h. lit (before y i h))
    relit_clear y (inr (x, i, d)) =
        subst (λ (z : Session). Clear g (moved p q e) z) (sym d)
        (both_moved e x (m.stands e (inl refl)) (m.stood x i) (λ h. m.apart e (inl refl) (subst (λ (z : Session). In z done) (sym h) i)))

  -- what changes when e is lit on its other wavelength: dark loses e, done gains it
  lit_from : (e : Session) (done dark : List Session) (y : Session) → Lit ss p q (e ∷ done) dark y → Lit ss p q done (e ∷ dark) y ⊎ (y ≡ moved p q e)
  lit_from e done dark y (inl (i, undone, lit)) =
      inl (inl (i, λ h. undone (inr h), λ h. elim h [ inl d ↦ undone (inl d) | inr k ↦ lit k ]))
  lit_from e done dark y (inr (x, inl d, h)) = inr (h ∙ ap (moved p q) d)
  lit_from e done dark y (inr (x, inr i, h)) = inl (inr (x, i, h))

  lit_to : (e : Session) (done dark : List Session) (y : Session) → Lit ss p q done (e ∷ dark) y → Lit ss p q (e ∷ done) dark y
  lit_to e done dark y (inl (i, undone, lit)) = inl (i, λ h. elim h [ inl d ↦ lit (inl d) | inr k ↦ undone k ], λ h. lit (inr h))
  lit_to e done dark y (inr (x, i, h)) = inr (x, inr i, h)

  -- ---- the next before e in the chain, d, goes dark

  on_from : (e d : Session) (r done : List Session) → Midway g ss p q e (d ∷ r) done → Midway g ss p q d r (e ∷ done)
  on_from e d r done m =
      record {
        stands = λ x i. m.stands x (inr i);
        stood = λ x i. elim i [ inl h ↦ subst (λ (z : Session). In z ss) (sym h) (m.stands e (inl refl)) | inr k ↦ m.stood x k ];
        distinct = m.distinct.1;
        apart = λ x i j. elim j [ inl h ↦ m.distinct.0 x i (sym h) | inr k ↦ m.apart x (inr i) k ];
        linked = m.linked.1;
        onward = λ z h. inl (same_Some z e (sym h ∙ m.linked.0));
        closed = λ x z i h. elim i [ inl k ↦ inr (m.onward z (ap (next g ss p q) (sym k) ∙ h)) | inr k ↦ inr (m.closed x z k h) ];
      }

  d_from : (e d : Session) (r done : List Session) → Midway g ss p q e (d ∷ r) done → (y : Session) → Lit ss p q done (e ∷ (d ∷ [])) y → Lit ss p q done (e ∷ []) y × Elsewhere g d y
  d_from e d r done m y (inl (i, undone, lit)) = (
    inl (i, undone, λ h. elim h [ inl k ↦ lit (inl k) | inr k ↦ k ]),
    λ w t. lit (inr (inl (same_destination g ss sound.clear y d i (m.stands d (inr (inl refl))) w t))),
  )
  d_from e d r done m y (inr (x, i, h)) = (
    inr (x, i, h),
    λ w t. (moved_clear x d (m.stood x i) (m.stands d (inr (inl refl)))
        (λ k. m.apart d (inr (inl refl)) (subst (λ (z : Session). In z done) k i))
        (λ k. m.apart d (inr (inl refl)) (m.closed x d i k))
        (λ k. m.apart e (inl refl) (subst (λ (z : Session). In z done) (same_Some x e (sym k ∙ m.linked.0)) i))
        (ap (λ (z : Session). z.wavelength) (sym h) ∙ w)).1 (ap (λ (z : Session). g z.destination) (sym h) ∙ t),
  )

  d_to : (e d : Session) (done : List Session) (y : Session) → Lit ss p q done (e ∷ []) y → Elsewhere g d y → Lit ss p q done (e ∷ (d ∷ [])) y
  d_to e d done y (inl (i, undone, lit)) apart =
      inl (i, undone, λ h. elim h [ inl k ↦ lit (inl k) | inr (inl k) ↦ apart (ap (λ (z : Session). z.wavelength) k) (ap (λ (z : Session). g z.destination) k) | inr (inr k) ↦ k ])
  d_to e d done y (inr h) apart = inr h

  d_lit : (e d : Session) (r done : List Session) → Midway g ss p q e (d ∷ r) done → Lit ss p q done (e ∷ []) d
  d_lit e d r done m =
      inl (m.stands d (inr (inl refl)), m.apart d (inr (inl refl)), λ h. elim h [ inl k ↦ m.distinct.0 d (inl refl) (sym k) | inr k ↦ k ])

  -- ---- all of it

  pub back_led : (End : Hears → Type 0) (tail : List Order) (e : Session) (r done : List Session) → Midway g ss p q e r done → ((hears : Hears) → Carrying g (Lit ss p q (reverse_aux (e ∷ r) done) []) hears → Led W G End hears [] tail) → (hears : Hears) → Carrying g (Lit ss p q done (e ∷ [])) hears → Led W G End hears (e.number ∷ []) (back g p q (e ∷ r) ++ tail)
  back_led End tail e [] done m k hears c =
      let e_in = m.stands e (inl refl) in
      let clear = relit_clear e [] done (e ∷ []) m (inl refl) (λ x i h. absurd (m.linked x i h)) in
      let hears' : Hears = tuned hears (moved p q e).wavelength (g e.destination) (Some (g e.source)) in
      let none : filter (λ n. not (n == e.number)) (e.number ∷ []) ≡ [] = dark_one e.number in (
        light_accepted g W G (Lit ss p q done (e ∷ [])) hears (moved p q e) (moved_low e e_in) (sound.grouped e e_in).0 (sound.grouped e e_in).1 clear c,
        rw none (omega arith),
        subst (λ (ns : List ℕ). Led W G End hears' ns tail) (sym none)
            (k hears' (light_step g (Lit ss p q done (e ∷ [])) (Lit ss p q (e ∷ done) []) hears (moved p q e) clear (lit_from e done []) (lit_to e done []) (inr (e, inl refl, refl)) c)),
      )
  back_led End tail e (d ∷ r) done m k hears c =
      let e_in = m.stands e (inl refl) in
      let d_in = m.stands d (inr (inl refl)) in
      let hears₁ : Hears = tuned hears d.wavelength (g d.destination) None in
      let c₁ : Carrying g (Lit ss p q done (e ∷ (d ∷ []))) hears₁ = darken_step g (Lit ss p q done (e ∷ [])) (Lit ss p q done (e ∷ (d ∷ []))) hears d (d_from e d r done m) (d_to e d done) c in
      let clear = relit_clear e (d ∷ r) done (e ∷ (d ∷ [])) m (inl refl) (λ x i h. inr (inl (inj x d e i d_in h m.linked.0))) in
      let hears₂ : Hears = tuned hears₁ (moved p q e).wavelength (g e.destination) (Some (g e.source)) in
      let one : filter (λ n. not (n == e.number)) (d.number ∷ (e.number ∷ [])) ≡ d.number ∷ [] = dark_two d.number e.number (λ h. m.distinct.0 d (inl refl) (sym (same_number ss sound.unlike d e d_in e_in h))) in (
        (sound.low d d_in, (sound.grouped d d_in).0, (sound.grouped d d_in).1, c.each d (d_lit e d r done m)),
        omega arith,
        (
          light_accepted g W G (Lit ss p q done (e ∷ (d ∷ []))) hears₁ (moved p q e) (moved_low e e_in) (sound.grouped e e_in).0 (sound.grouped e e_in).1 clear c₁,
          rw one (omega arith),
          subst (λ (ns : List ℕ). Led W G End hears₂ ns (back g p q (d ∷ r) ++ tail)) (sym one)
              (back_led End tail d r (e ∷ done) (on_from e d r done m) k hears₂
              (light_step g (Lit ss p q done (e ∷ (d ∷ []))) (Lit ss p q (e ∷ done) (d ∷ [])) hears₁ (moved p q e) clear (lit_from e done (d ∷ [])) (lit_to e done (d ∷ [])) (inr (e, inl refl, refl)) c₁)),
        ),
      )

  chain_led : (End : Hears → Type 0) (tail : List Order) (r : List Session) → Ready g ss p q r → ((hears : Hears) → Carrying g (Lit ss p q (reverse_aux r []) []) hears → Led W G End hears [] tail) → (hears : Hears) → Carrying g (λ y. In y ss) hears → Led W G End hears [] (chain_orders g p q r ++ tail)
  chain_led End tail [] m k hears c =
      k hears (carries_like g (λ y. In y ss) (Lit ss p q [] []) hears (λ y i. inl (i, λ h. h, λ h. h)) (λ y h. elim h [ inl u ↦ u.0 | inr u ↦ absurd u.1 ]) c)
  chain_led End tail (e ∷ r) m k hears c =
      let e_in = m.stands e (inl refl) in (
        (sound.low e e_in, (sound.grouped e e_in).0, (sound.grouped e e_in).1, c.each e e_in),
        omega arith,
        back_led End tail e r []
            (record { stands = m.stands; stood = λ x i. absurd i; distinct = m.distinct; apart = λ x i h. h; linked = m.linked; onward = λ z h. absurd (m.ended z h); closed = λ x z i h. absurd i })
            k (tuned hears e.wavelength (g e.destination) None)
            (darken_step g (λ y. In y ss) (Lit ss p q [] (e ∷ [])) hears e
            (λ y h. elim h [ inl u ↦ (u.0, λ w t. u.2 (inl (same_destination g ss sound.clear y e u.0 e_in w t))) | inr u ↦ absurd u.1 ])
            (λ y i apart. inl (i, λ h. h, λ h. elim h [ inl d ↦ apart (ap (λ (z : Session). z.wavelength) d) (ap (λ (z : Session). g z.destination) d) | inr d ↦ d ]))
            c),
      )

  -- the chain es moves, and then the new session is lit
  module _ (es : List Session) (part : (x : Session) → In x es → In x ss) (ready : Ready g ss p q (reverse es)) (n : Session) (n-low : n.wavelength < W) (a_low : g n.source < G) (b_low : g n.destination < G)
      (free : (x : Session) → In x ss → (cond (among es x) (moved p q x) x).wavelength ≡ n.wavelength → (g x.source ≡ g n.source → ⊥) × (g x.destination ≡ g n.destination → ⊥)) where
    after : Session → Session
    after x = cond (among es x) (moved p q x) x

    after_yes : (x : Session) → In x es → after x ≡ moved p q x
    unfolding after
    after_yes x i = rw (among_from ss sound.unlike es part x i)

    after_not : (x : Session) → In x ss → (In x es → ⊥) → after x ≡ x
    unfolding after
    after_not x i no-es = go (among es x) refl
      where
        go : (b : Bool) → among es x ≡ b → cond b (moved p q x) x ≡ x
        go true e = absurd (no-es (among_says ss sound.unlike es part x i e))
        go false e = refl

    lit_clear : (y : Session) → Lit ss p q es [] y → Clear g n y
    unfolding after
    lit_clear y (inl (i, un, lit)) w =
        let h = free y i (ap (λ (z : Session). z.wavelength) (after_not y i un) ∙ sym w) in
        (λ e. h.0 (sym e), λ e. h.1 (sym e))
    lit_clear y (inr (x, i, d)) w =
        let h = free x (part x i) (ap (λ (z : Session). z.wavelength) (after_yes x i ∙ sym d) ∙ sym w) in
        (λ e. h.0 (ap (λ (z : Session). g z.source) (sym d) ∙ sym e), λ e. h.1 (ap (λ (z : Session). g z.destination) (sym d) ∙ sym e))

    lit_now : (y : Session) → Lit ss p q es [] y → In y (map after ss)
    lit_now y (inl (i, un, lit)) = subst (λ (z : Session). In z (map after ss)) (after_not y i un) (map_in after y ss i)
    lit_now y (inr (x, i, d)) = subst (λ (z : Session). In z (map after ss)) (after_yes x i ∙ sym d) (map_in after x ss (part x i))

    now_lit : (y : Session) → In y (map after ss) → Lit ss p q es [] y
    unfolding after
    now_lit y i =
        let r = in_map after y ss i in go r.0 r.1 r.2 (among es r.0) refl
      where
        go : (x : Session) → In x ss → y ≡ after x → (b : Bool) → among es x ≡ b → Lit ss p q es [] y
        go x i e true h = let k = among_says ss sound.unlike es part x i h in inr (x, k, e ∙ after_yes x k)
        go x i e false h =
            let un : In x es → ⊥ = λ k. both_ways (among es x) h (among_from ss sound.unlike es part x k) in
            subst (Lit ss p q es []) (sym (e ∙ after_not x i un)) (inl (i, un, λ h. h))

    pub all_served : (hears : Hears) → Carrying g (λ y. In y ss) hears → Led W G (Carrying g (λ y. In y (n ∷ map (λ x. cond (among es x) (moved p q x) x) ss))) hears [] (chain_orders g p q (reverse es) ++ (order g Light n ∷ []))
    unfolding after
    all_served =
        chain_led (Carrying g (λ y. In y (n ∷ map after ss))) (order g Light n ∷ []) (reverse es) ready
        (subst (λ (l : List Session). (hears : Hears) → Carrying g (Lit ss p q l []) hears → Led W G (Carrying g (λ y. In y (n ∷ map after ss))) hears [] (order g Light n ∷ [])) (sym (reverse-reverse es))
        (light_only g W G (Lit ss p q es []) (λ y. In y (n ∷ map after ss)) n n-low a_low b_low lit_clear
        (λ y i. elim i [ inl d ↦ inr d | inr k ↦ inl (now_lit y k) ]) (λ y h. inr (lit_now y h)) (inl refl)))
